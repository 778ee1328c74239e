-- Two vertices that two triangles of a base have in common lie on one border.
use mathlib.Core.Path.{◌≡◌, refl, sym, ◌∙◌, ap}
use mathlib.Core.Bool.{Bool, true, false, cond}
use Prim.Native.Nat.{ℕ, zero, suc, ◌-◌, ◌≤◌, ◌<◌}
use native.Mathlib.Omega.{arith}
use lib.Dec.{T, leb, le→leb, leb→le}
use Rattle.pattern.proofs.Meeting.{Shared, Meet}
use Rattle.pattern.proofs.Neighbours.{CornerOf, Beside, Same, at_corner, on_edge}
use Rattle.pattern.specs.Place.{BySide, next_side}
use Rattle.pattern.specs.Spot.{Spot, spot, border_at, is_spot}

-- ---- positions of a closed side
cond_true : {X : Type 0} (b : Bool) (x y : X) → T b → cond b x y ≡ x
cond_true true x y t = refl
cond_true false x y t = absurd t

cond_false : {X : Type 0} (b : Bool) (x y : X) → (T b → ⊥) → cond b x y ≡ y
cond_false true x y f = absurd (f tt)
cond_false false x y f = refl

border_at_low : (n k x : ℕ) → x ≤ n → border_at n k x ≡ spot 0 k x
border_at_low n k x le = cond_true (leb x n) (spot 0 k x) (spot 0 (next_side k) 0) (le→leb x n le)

border_at_end : (n k : ℕ) → border_at n k (suc n) ≡ spot 0 (next_side k) 0
border_at_end n k = cond_false (leb (suc n) n) (spot 0 k (suc n)) (spot 0 (next_side k) 0) (λ t. let z = leb→le (suc n) n t in omega arith)

-- ---- sides of a triangle
data Way (s u : ℕ) : Type 0 where
  it : u ≡ s → Way s u
  after : u ≡ next_side s → s ≡ next_side (next_side u) → Way s u
  ahead : u ≡ next_side (next_side s) → s ≡ next_side u → Way s u

way : (s u : ℕ) → s < 3 → u < 3 → Way s u
way zero zero a b = it refl
way zero (suc zero) a b = after refl refl
way zero (suc (suc zero)) a b = ahead refl refl
way zero (suc (suc (suc u))) a b = absurd (let z : ⊥ = omega arith in z)
way (suc zero) zero a b = ahead refl refl
way (suc zero) (suc zero) a b = it refl
way (suc zero) (suc (suc zero)) a b = after refl refl
way (suc zero) (suc (suc (suc u))) a b = absurd (let z : ⊥ = omega arith in z)
way (suc (suc zero)) zero a b = after refl refl
way (suc (suc zero)) (suc zero) a b = ahead refl refl
way (suc (suc zero)) (suc (suc zero)) a b = it refl
way (suc (suc zero)) (suc (suc (suc u))) a b = absurd (let z : ⊥ = omega arith in z)
way (suc (suc (suc s))) u a b = absurd (let z : ⊥ = omega arith in z)

next_side<3 : (k : ℕ) → next_side k < 3
next_side<3 k = omega arith

module _ (n : ℕ) (t u : BySide) (B : Beside t u) where
  swap : (p q p' q' : Spot) → Shared n q p q' p' → Shared n p q p' q'
  swap p q p' q' s =
      record {
        k = s.k;
        k' = s.k';
        x = s.y;
        y = s.x;
        k<3 = s.k<3;
        k'<3 = s.k'<3;
        x_in = s.y_in;
        y_in = s.x_in;
        is_p = s.is_q;
        is_q = s.is_p;
        is_p' = s.is_q';
        is_q' = s.is_p';
      }

  -- side s of t is side s' of u: p at x of it, q at y
  along :
      (p q p' q' : Spot) (s s' x y : ℕ) → s < 3 → s' < 3 → x ≤ suc n → y ≤ suc n
      → p ≡ border_at n s x → q ≡ border_at n s y → p' ≡ border_at n s' (suc n - x) → q' ≡ border_at n s' (suc n - y) → Shared n p q p' q'
  along p q p' q' s s' x y a b c d e f g h =
      record { k = s; k' = s'; x = x; y = y; k<3 = a; k'<3 = b; x_in = c; y_in = d; is_p = e; is_q = f; is_p' = g; is_q' = h }

  inner_far : (s' x : ℕ) (p' : Spot) → 1 ≤ x → x ≤ n → p' ≡ spot 0 s' (suc n - x) → p' ≡ border_at n s' (suc n - x)
  inner_far s' x p' l m e = let le : suc n - x ≤ n = omega arith in e ∙ sym (border_at_low n s' (suc n - x) le)

  at_start : (s : ℕ) (p : Spot) → p ≡ spot 0 s 0 → p ≡ border_at n s 0
  at_start s p e = let le : 0 ≤ n = omega arith in e ∙ sym (border_at_low n s 0 le)

  at_end : (s w : ℕ) (p : Spot) → w ≡ next_side s → p ≡ spot 0 w 0 → p ≡ border_at n s (suc n)
  at_end s w p i e = e ∙ ap (λ v. spot 0 v 0) i ∙ sym (border_at_end n s)

  far_of_start : (s' : ℕ) (p' : Spot) → p' ≡ border_at n s' (suc n) → p' ≡ border_at n s' (suc n - 0)
  far_of_start s' p' e = e ∙ ap (border_at n s') (let z : suc n ≡ suc n - 0 = omega arith in z)

  far_of_end : (s' : ℕ) (p' : Spot) → p' ≡ border_at n s' 0 → p' ≡ border_at n s' (suc n - suc n)
  far_of_end s' p' e = e ∙ ap (border_at n s') (let z : 0 ≡ suc n - suc n = omega arith in z)

  -- a corner w of t that is corner w' of u, where side s of t is side s' of u: it is an end of the side
  module _ (s s' : ℕ) (a : s < 3) (a' : s' < 3) (e : t.edge s ≡ u.edge s') where
    in_start : CornerOf t u s
    in_start = record { m = next_side s'; m<3 = next_side<3 s'; is = (B.opposite s s' a a' e).0 }

    in_end : CornerOf t u (next_side s)
    in_end = record { m = s'; m<3 = a'; is = (B.opposite s s' a a' e).1 }

    with_corner :
        (p q p' q' : Spot) (x w w' : ℕ) → w < 3 → w' < 3 → 1 ≤ x → x ≤ n → p ≡ spot 0 s x → p' ≡ spot 0 s' (suc n - x)
        → q ≡ spot 0 w 0 → q' ≡ spot 0 w' 0 → t.corner w ≡ u.corner w' → Way s w → Shared n p q p' q'
    with_corner p q p' q' x w w' b b' l m ep ep' eq eq' c (it i) =
        let j : w' ≡ next_side s' = B.corners w' (next_side s') b' (next_side<3 s') (sym c ∙ ap t.corner i ∙ (B.opposite s s' a a' e).0) in
        along p q p' q' s s' x 0 a a' (omega arith) (omega arith) (ep ∙ sym (border_at_low n s x m))
        (at_start s q (eq ∙ ap (λ v. spot 0 v 0) i)) (inner_far s' x p' l m ep')
        (far_of_start s' q' (at_end s' w' q' j eq'))
    with_corner p q p' q' x w w' b b' l m ep ep' eq eq' c (after i i') =
        let j : w' ≡ s' = B.corners w' s' b' a' (sym c ∙ ap t.corner i ∙ (B.opposite s s' a a' e).1) in
        along p q p' q' s s' x (suc n) a a' (omega arith) (omega arith) (ep ∙ sym (border_at_low n s x m))
        (at_end s w q i eq) (inner_far s' x p' l m ep')
        (far_of_end s' q' (at_start s' q' (eq' ∙ ap (λ v. spot 0 v 0) j)))
    with_corner p q p' q' x w w' b b' l m ep ep' eq eq' c (ahead i i') =
        absurd (B.differ s a in_start in_end (record { m = w'; m<3 = b'; is = ap t.corner (sym i) ∙ c }))

    -- another common edge: it is the same one
    with_edge :
        (p q p' q' : Spot) (x w w' y : ℕ) → w < 3 → w' < 3 → 1 ≤ x → x ≤ n → 1 ≤ y → y ≤ n → p ≡ spot 0 s x → p' ≡ spot 0 s' (suc n - x)
        → q ≡ spot 0 w y → q' ≡ spot 0 w' (suc n - y) → t.edge w ≡ u.edge w' → Way s w → Shared n p q p' q'
    with_edge p q p' q' x w w' y b b' l m l₂ m₂ ep ep' eq eq' c (it i) =
        let j : w' ≡ s' = B.edges w' s' b' a' (sym c ∙ ap t.edge i ∙ e) in
        along p q p' q' s s' x y a a' (omega arith) (omega arith) (ep ∙ sym (border_at_low n s x m))
        (eq ∙ ap (λ v. spot 0 v y) i ∙ sym (border_at_low n s y m₂)) (inner_far s' x p' l m ep')
        (inner_far s' y q' l₂ m₂ (eq' ∙ ap (λ v. spot 0 v (suc n - y)) j))
    with_edge p q p' q' x w w' y b b' l m l₂ m₂ ep ep' eq eq' c (after i i') =
        absurd (B.differ s a in_start in_end
        (record { m = w'; m<3 = b'; is = ap (λ v. t.corner (next_side v)) (sym i) ∙ (B.opposite w w' b b' c).1 }))
    with_edge p q p' q' x w w' y b b' l m l₂ m₂ ep ep' eq eq' c (ahead i i') =
        absurd (B.differ s a in_start in_end
        (record { m = next_side w'; m<3 = next_side<3 w'; is = ap t.corner (sym i) ∙ (B.opposite w w' b b' c).0 }))

  -- two corners
  two_corners :
      (p q p' q' : Spot) (s s' w w' : ℕ) → s < 3 → s' < 3 → w < 3 → w' < 3
      → p ≡ spot 0 s 0 → p' ≡ spot 0 s' 0 → q ≡ spot 0 w 0 → q' ≡ spot 0 w' 0
      → t.corner s ≡ u.corner s' → t.corner w ≡ u.corner w' → w ≡ next_side s → Way s' w' → Shared n p q p' q'
  two_corners p q p' q' s s' w w' a a' b b' ep ep' eq eq' c d i (it j) =
      let e : s ≡ w = B.own s w a b (c ∙ ap u.corner (sym j) ∙ sym d) in
      absurd (let z : ⊥ = omega arith in z)
  two_corners p q p' q' s s' w w' a a' b b' ep ep' eq eq' c d i (after j j') =
      absurd (B.ordered s s' a a' c (ap t.corner (sym i) ∙ d ∙ ap u.corner j))
  two_corners p q p' q' s s' w w' a a' b b' ep ep' eq eq' c d i (ahead j j') =
      along p q p' q' s w' 0 (suc n) a b' (omega arith) (omega arith) (at_start s p ep) (at_end s w q i eq)
      (far_of_start w' p' (at_end w' s' p' j' ep')) (far_of_end w' q' (at_start w' q' eq'))

  corners_shared :
      (p q p' q' : Spot) (s s' w w' : ℕ) → s < 3 → s' < 3 → w < 3 → w' < 3
      → p ≡ spot 0 s 0 → p' ≡ spot 0 s' 0 → q ≡ spot 0 w 0 → q' ≡ spot 0 w' 0
      → t.corner s ≡ u.corner s' → t.corner w ≡ u.corner w' → (p ≡ q → ⊥) → Way s w → Shared n p q p' q'
  corners_shared p q p' q' s s' w w' a a' b b' ep ep' eq eq' c d ne (it i) = absurd (ne (ep ∙ ap (λ v. spot 0 v 0) (sym i) ∙ sym eq))
  corners_shared p q p' q' s s' w w' a a' b b' ep ep' eq eq' c d ne (after i i') =
      two_corners p q p' q' s s' w w' a a' b b' ep ep' eq eq' c d i (way s' w' a' b')
  corners_shared p q p' q' s s' w w' a a' b b' ep ep' eq eq' c d ne (ahead i i') =
      swap p q p' q' (two_corners q p q' p' w w' s s' b b' a a' eq eq' ep ep' d c i' (way w' s' b' a'))

  pub shared : (p q p' q' : Spot) → Same n t u p p' → Same n t u q q' → (p ≡ q → ⊥) → Shared n p q p' q'
  shared p q p' q' (at_corner s s' a a' ep ep' c) (at_corner w w' b b' eq eq' d) ne =
      corners_shared p q p' q' s s' w w' a a' b b' ep ep' eq eq' c d ne (way s w a b)
  shared p q p' q' (at_corner s s' a a' ep ep' c) (on_edge w w' y b b' l m eq eq' d) ne =
      swap p q p' q' (with_corner w w' b b' d q p q' p' y s s' a a' l m eq eq' ep ep' c (way w s b a))
  shared p q p' q' (on_edge s s' x a a' l m ep ep' c) (at_corner w w' b b' eq eq' d) ne =
      with_corner s s' a a' c p q p' q' x w w' b b' l m ep ep' eq eq' d (way s w a b)
  shared p q p' q' (on_edge s s' x a a' l m ep ep' c) (on_edge w w' y b b' l₂ m₂ eq eq' d) ne =
      with_edge s s' a a' c p q p' q' x w w' y b b' l m l₂ m₂ ep ep' eq eq' d (way s w a b)

  -- so the vertex functions of the two meet as they should, if equal vertices are of the two kinds
  pub meet :
      (f g : Spot → ℕ) → ((p p' : Spot) → T (is_spot n p) → T (is_spot n p') → f p ≡ g p' → Same n t u p p') → Meet n f g
  meet f g same p q p' q' i j i' j' e d ne = shared p q p' q' (same p p' i i' e) (same q q' j j' d) ne
