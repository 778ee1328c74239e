-- One vertex more is filled.
use Rattle.std.proofs.Common.{◌≡◌, ℕ, suc, ◌+◌, ◌-◌, ◌<◌, ◌≤◌, List, set, sym, ap, ◌∙◌, ap₂, add-one, arith}
use Rattle.points.specs.Filling.{filled_from, Generator}

module _ {Point Data State : Type 0} (generate : Generator Point Data State) (point : ℕ → Point) (i v : ℕ) (s : State) (l : List Data) (whole : List Data × State) where
  -- what was left to do from vertex i on gives the whole, and so does what is left from vertex i + 1 on
  pub next_vertex :
      (d : Data) (s' : State) → i < v → (d, s') ≡ generate s (point i) → filled_from generate point i (v - i) s l ≡ whole
      → filled_from generate point (i + 1) (v - (i + 1)) s' (set l i d) ≡ whole
  next_vertex d s' b e h =
      let k : suc (v - (i + 1)) ≡ v - i = sym (add-one (v - (i + 1))) ∙ omega (arith, b) in
      ap₂ (λ (j : ℕ) (a : Data × State). filled_from generate point j (v - (i + 1)) a.1 (set l i a.0)) (add-one i) e
      ∙ ap (λ m. filled_from generate point i m s l) k ∙ h

  -- nothing is left to do after the last
  pub none_left : v ≤ i → filled_from generate point i (v - i) s l ≡ whole → (l, s) ≡ whole
  none_left b h = let k : 0 ≡ v - i = omega (arith, b) in ap (λ m. filled_from generate point i m s l) k ∙ h
