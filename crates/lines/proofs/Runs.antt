-- Lists of runs and of ways down, one step longer.
use Rattle.std.proofs.Common.{◌≡◌, ℕ, zero, suc, ◌+◌, ◌-◌, ◌<◌, List, ◌++◌, sym, ap, ◌∙◌, ap₂, append_assoc, zero-add, add-one, arith}
use Rattle.pattern.specs.Ring.{up, down}
use Rattle.pattern.proofs.Runs.{up-snoc}

pub up_more : (g h : List ℕ) (i : ℕ) (f : ℕ → List ℕ) → h ≡ (g ++ up 0 i f) ++ f i → h ≡ g ++ up 0 (i + 1) f
up_more g h i f e =
    e ∙ append_assoc g (up 0 i f) (f i) ∙ ap (λ l. g ++ l) (sym (ap (λ n. up 0 n f) (add-one i) ∙ up-snoc 0 i f ∙ ap (λ n. up 0 i f ++ f n) (zero-add i)))

pub down_more : (g h : List ℕ) (i : ℕ) (f : ℕ → List ℕ) → 0 < i → h ≡ g ++ f i → h ++ down (i - 1) f ≡ g ++ down i f
down_more g h zero f p e = absurd (omega arith)
down_more g h (suc i) f p e =
    let k : suc i - 1 ≡ i = omega arith in
    ap₂ (λ l n. l ++ down n f) e k ∙ append_assoc g (f (suc i)) (down i f)
