-- Rings that agree up to m have the same strip: a ring whose edges have m vertices each reads no edge beyond them.
use Rattle.std.proofs.Common.{◌≡◌, ℕ, zero, suc, ◌-◌, ◌<◌, ◌≤◌, List, [], ◌∷◌, ◌++◌, refl, ap₂, arith}
use Rattle.pattern.specs.Ring.{Ring, up, down, zigzag, ring_strip}
use Rattle.rings.specs.declared.contents.Side.{Side}
use Rattle.rings.specs.declared.contents.Side.TheVariants.{Ab, Bc, Ca}
use Rattle.rings.specs.Views.{edge_at, inner_at}

up_agree : (i k : ℕ) (f g : ℕ → ℕ) → ((j : ℕ) → f j ≡ g j) → up i k (λ j. f j ∷ []) ≡ up i k (λ j. g j ∷ [])
up_agree i zero f g h = refl
up_agree i (suc k) f g h = ap₂ (λ x l. x ∷ l) (h i) (up_agree (suc i) k f g h)

down_agree : (k : ℕ) (f g : ℕ → List ℕ) → ((i : ℕ) → i ≤ k → f i ≡ g i) → down k f ≡ down k g
down_agree zero f g h = refl
down_agree (suc k) f g h = ap₂ (λ x y. x ++ y) (h (suc k) (omega arith)) (down_agree k f g (λ i l. h i (omega arith)))

module _ (r q : Ring ℕ) (inners : (s : Side) (i : ℕ) → inner_at s r i ≡ inner_at s q i) where
  -- the same first m vertices of each edge
  abbrev EdgesAgree : ℕ → Type 0
  EdgesAgree m = (s : Side) (i : ℕ) → i < m → edge_at s r i ≡ edge_at s q i

  zigzag_agree : (z : ℕ) → EdgesAgree (suc z) → (s : Side) → zigzag z (edge_at s r) (inner_at s r) ≡ zigzag z (edge_at s q) (inner_at s q)
  zigzag_agree z e s =
      ap₂ (λ l x. l ++ (x ∷ []))
      (down_agree z (λ i. edge_at s r i ∷ inner_at s r (i - 1) ∷ []) (λ i. edge_at s q i ∷ inner_at s q (i - 1) ∷ [])
      (λ i h. ap₂ (λ x y. x ∷ y ∷ []) (e s i (omega arith)) (inners s (i - 1))))
      (e s 0 (omega arith))

  pub strip_agree : (m : ℕ) → ((s : Side) (i : ℕ) → i < m → edge_at s r i ≡ edge_at s q i) → ring_strip m r ≡ ring_strip m q
  strip_agree zero e = refl
  strip_agree (suc zero) e =
      let x = e Ab 0 (omega arith) in
      let y = e Bc 0 (omega arith) in
      let z = e Ca 0 (omega arith) in
      cc
  strip_agree (suc (suc zero)) e =
      let x = e Ab 0 (omega arith) in
      let y = e Bc 0 (omega arith) in
      let z = e Ca 0 (omega arith) in
      let u = e Ab 1 (omega arith) in
      let v = e Bc 1 (omega arith) in
      let w = e Ca 1 (omega arith) in
      let o = inners Ab 0 in
      cc
  strip_agree (suc (suc (suc k))) e =
      let run : (s : Side) → up 0 (suc k) (λ i. inner_at s r i ∷ []) ≡ up 0 (suc k) (λ i. inner_at s q i ∷ [])
      = λ s. up_agree 0 (suc k) (inner_at s r) (inner_at s q) (inners s) in
      ap₂ (λ l z. l ++ z)
      (ap₂ (λ l z. l ++ z)
      (ap₂ (λ l z. l ++ z)
      (ap₂ (λ l z. l ++ z) (ap₂ (λ l z. l ++ z) (ap₂ (λ l z. l ++ z) (run Ab) (run Bc)) (run Ca)) (ap₂ (λ t z. t ∷ z ∷ []) (inners Ab 0) (e Ab 0 (omega arith))))
      (zigzag_agree (suc (suc k)) e Ca))
      (zigzag_agree (suc (suc k)) e Bc))
      (zigzag_agree (suc (suc k)) e Ab)
