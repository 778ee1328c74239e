-- What the rules of a base give of two of its triangles.
use Rattle.std.proofs.Common.{◌≡◌, ℕ, zero, suc, ◌+◌, ◌<◌, ◌≤◌, eqb, List, [], ◌∷◌, sym, refl, ap, ◌∙◌, subst, ap₂, inl, inr, arith}
use native.Mathlib.Decide.{dec_le}
use Rattle.pattern.proofs.Neighbours.{Beside, CornerOf as Meets}
use Rattle.pattern.specs.Place.{next_side}
use Rattle.pattern.specs.Ring.{pick}
use Rattle.shape.specs.Sides.{both, tick, Use, walk, uses, corners, use_count, way_count, SameEnds}
use Rattle.shape.specs.Questions.{ThreeCorners, Differ, Accepted}
use Rattle.shape.specs.Lists.{In}
use Rattle.shape.specs.declared.triangle.Triangle.{Triangle}
use Rattle.mesh.specs.Faces.{by_side}
use Rattle.pattern.proofs.Count.{tick_add}
use Rattle.pattern.proofs.Occurrences.{hits, hits_yes, hits_no, eqb_yes, Same?, is, isnt, same?}

-- side k of a triangle
abbrev pub use_at : Triangle → ℕ → Use
use_at t k = pick k (walk t.ab t.a t.b) (walk t.bc t.b t.c) (walk t.ca t.c t.a)

pub edge_of_lem : (t : Triangle) (k : ℕ) → (by_side t).edge k ≡ (use_at t k).edge
edge_of_lem t zero = refl
edge_of_lem t (suc zero) = refl
edge_of_lem t (suc (suc k)) = refl

pub start_of : (t : Triangle) (k : ℕ) → (by_side t).corner k ≡ (use_at t k).start
start_of t zero = refl
start_of t (suc zero) = refl
start_of t (suc (suc k)) = refl

pub stop_of : (t : Triangle) (k : ℕ) → k < 3 → (by_side t).corner (next_side k) ≡ (use_at t k).stop
stop_of t zero l = refl
stop_of t (suc zero) l = refl
stop_of t (suc (suc zero)) l = refl
stop_of t (suc (suc (suc k))) l = absurd (let z : ⊥ = omega arith in z)

pub in_uses : (t : Triangle) (ts : List Triangle) (k : ℕ) → In (use_at t k) (uses (t ∷ ts))
in_uses t ts zero = inl refl
in_uses t ts (suc zero) = inr (inl refl)
in_uses t ts (suc (suc k)) = inr (inr (inl refl))

-- ---- counts of uses
pub use_count-cons : (e : ℕ) (u : Use) (us : List Use) → use_count e (u ∷ us) ≡ hits e u.edge + use_count e us
use_count-cons e u us = tick_add (eqb e u.edge) (use_count e us)

abbrev pub ways : ℕ → ℕ → ℕ → Use → ℕ
ways e p q u = tick (both (eqb e u.edge) (both (eqb p u.start) (eqb q u.stop))) 0

pub way_count-cons : (e p q : ℕ) (u : Use) (us : List Use) → way_count e p q (u ∷ us) ≡ ways e p q u + way_count e p q us
way_count-cons e p q u us = tick_add (both (eqb e u.edge) (both (eqb p u.start) (eqb q u.stop))) (way_count e p q us)

pub ways_yes : (e p q : ℕ) (u : Use) → e ≡ u.edge → p ≡ u.start → q ≡ u.stop → ways e p q u ≡ 1
ways_yes e p q u a b c =
    ap (λ x. tick x 0) (ap₂ both (eqb_yes e u.edge a) (ap₂ both (eqb_yes p u.start b) (eqb_yes q u.stop c)))

pub in_use_count : (v : Use) (us : List Use) → In v us → 1 ≤ use_count v.edge us
in_use_count v [] i = absurd i
in_use_count v (u ∷ us) (inl e) = omega (arith, use_count-cons v.edge u us, hits_yes v.edge u.edge (ap (λ x. x.edge) e))
in_use_count v (u ∷ us) (inr i) = omega (arith, use_count-cons v.edge u us, in_use_count v us i)

pub in_way_count : (v : Use) (us : List Use) → In v us → 1 ≤ way_count v.edge v.start v.stop us
in_way_count v [] i = absurd i
in_way_count v (u ∷ us) (inl e) =
    omega (arith, way_count-cons v.edge v.start v.stop u us, ways_yes v.edge v.start v.stop u (ap (λ x. x.edge) e) (ap (λ x. x.start) e) (ap (λ x. x.stop) e))
in_way_count v (u ∷ us) (inr i) = omega (arith, way_count-cons v.edge v.start v.stop u us, in_way_count v us i)

pub use_count_split : (e : ℕ) (t : Triangle) (ts : List Triangle) → use_count e (uses (t ∷ ts)) ≡ use_count e (uses (t ∷ [])) + use_count e (uses ts)
use_count_split e t ts =
    let x = walk t.ab t.a t.b in
    let y = walk t.bc t.b t.c in
    let z = walk t.ca t.c t.a in
    omega (
      arith,
      use_count-cons e x (y ∷ z ∷ uses ts),
      use_count-cons e y (z ∷ uses ts),
      use_count-cons e z (uses ts),
      use_count-cons e x (y ∷ z ∷ []),
      use_count-cons e y (z ∷ []),
      use_count-cons e z [],
    )

pub way_count_split : (e p q : ℕ) (t : Triangle) (ts : List Triangle) → way_count e p q (uses (t ∷ ts)) ≡ way_count e p q (uses (t ∷ [])) + way_count e p q (uses ts)
way_count_split e p q t ts =
    let x = walk t.ab t.a t.b in
    let y = walk t.bc t.b t.c in
    let z = walk t.ca t.c t.a in
    omega (
      arith,
      way_count-cons e p q x (y ∷ z ∷ uses ts),
      way_count-cons e p q y (z ∷ uses ts),
      way_count-cons e p q z (uses ts),
      way_count-cons e p q x (y ∷ z ∷ []),
      way_count-cons e p q y (z ∷ []),
      way_count-cons e p q z [],
    )

-- ---- no edge is used more than twice
pub record Found (e : ℕ) (us : List Use) : Type 0 where
  pub v : Use
  pub there : In v us
  pub its : e ≡ v.edge

pub find : (e : ℕ) (us : List Use) → 1 ≤ use_count e us → Found e us
find e [] h = absurd (let z : ⊥ = omega arith in z)
find e (u ∷ us) h = go (same? e u.edge) (find e us)
  where
    go : Same? e u.edge → (1 ≤ use_count e us → Found e us) → Found e (u ∷ us)
    go (is d b) r = record { v = u; there = inl refl; its = d }
    go (isnt d b) r =
        let le : 1 ≤ use_count e us = omega (arith, use_count-cons e u us, hits_no e u.edge d) in
        let o = r le in
        record { v = o.v; there = inr o.there; its = o.its }

two_ways :
    (v : Use) (us : List Use) → ((u : Use) → In u us → u.edge ≡ v.edge → SameEnds u v)
    → use_count v.edge us ≤ way_count v.edge v.start v.stop us + way_count v.edge v.stop v.start us
two_ways v [] f = omega arith
two_ways v (u ∷ us) f = go (same? v.edge u.edge) (f u (inl refl)) (two_ways v us (λ x i. f x (inr i)))
  where
    a : use_count v.edge (u ∷ us) ≡ hits v.edge u.edge + use_count v.edge us
    a = use_count-cons v.edge u us

    b : way_count v.edge v.start v.stop (u ∷ us) ≡ ways v.edge v.start v.stop u + way_count v.edge v.start v.stop us
    b = way_count-cons v.edge v.start v.stop u us

    c : way_count v.edge v.stop v.start (u ∷ us) ≡ ways v.edge v.stop v.start u + way_count v.edge v.stop v.start us
    c = way_count-cons v.edge v.stop v.start u us

    by : v.edge ≡ u.edge → SameEnds u v → 1 ≤ ways v.edge v.start v.stop u + ways v.edge v.stop v.start u
    by d (inl x) = omega (arith, ways_yes v.edge v.start v.stop u d (sym x.0) (sym x.1))
    by d (inr x) = omega (arith, ways_yes v.edge v.stop v.start u d (sym x.0) (sym x.1))

    go :
        Same? v.edge u.edge → (u.edge ≡ v.edge → SameEnds u v)
        → use_count v.edge us ≤ way_count v.edge v.start v.stop us + way_count v.edge v.stop v.start us
        → use_count v.edge (u ∷ us) ≤ way_count v.edge v.start v.stop (u ∷ us) + way_count v.edge v.stop v.start (u ∷ us)
    go (is d x) s r = omega (arith, a, b, c, by d (s (sym d)), hits_yes v.edge u.edge d)
    go (isnt d x) s r = omega (arith, a, b, c, hits_no v.edge u.edge d)

pub used_twice : (P E : ℕ) (ts : List Triangle) → Accepted P E ts → (e : ℕ) → use_count e (uses ts) ≤ 2
used_twice P E ts A e = go (dec_le 1 (use_count e (uses ts)))
  where
    go : Dec (1 ≤ use_count e (uses ts)) → use_count e (uses ts) ≤ 2
    go (yes c) =
        let o = find e (uses ts) c in
        let v = o.v in
        let k = two_ways v (uses ts) (λ u i d. A.matching.one_pair u v i o.there d) in
        let x = A.each_way v.edge v.start v.stop in
        let y = A.each_way v.edge v.stop v.start in
        let z : use_count e (uses ts) ≡ use_count v.edge (uses ts) = ap (λ d. use_count d (uses ts)) o.its in
        omega arith
    go (no c) = omega arith

-- ---- one triangle
pub corner_apart : (t : Triangle) → ThreeCorners t → (k j : ℕ) → k < 3 → j < 3 → (by_side t).corner k ≡ (by_side t).corner j → k ≡ j
corner_apart t h zero zero a b e = refl
corner_apart t h zero (suc zero) a b e = absurd (h.ab e)
corner_apart t h zero (suc (suc zero)) a b e = absurd (h.ca (sym e))
corner_apart t h zero (suc (suc (suc j))) a b e = absurd (let z : ⊥ = omega arith in z)
corner_apart t h (suc zero) zero a b e = absurd (h.ab (sym e))
corner_apart t h (suc zero) (suc zero) a b e = refl
corner_apart t h (suc zero) (suc (suc zero)) a b e = absurd (h.bc e)
corner_apart t h (suc zero) (suc (suc (suc j))) a b e = absurd (let z : ⊥ = omega arith in z)
corner_apart t h (suc (suc zero)) zero a b e = absurd (h.ca e)
corner_apart t h (suc (suc zero)) (suc zero) a b e = absurd (h.bc (sym e))
corner_apart t h (suc (suc zero)) (suc (suc zero)) a b e = refl
corner_apart t h (suc (suc zero)) (suc (suc (suc j))) a b e = absurd (let z : ⊥ = omega arith in z)
corner_apart t h (suc (suc (suc k))) j a b e = absurd (let z : ⊥ = omega arith in z)

pub data Corner (x : ℕ) (t : Triangle) : Type 0 where
  at_a : x ≡ t.a → Corner x t
  at_b : x ≡ t.b → Corner x t
  at_c : x ≡ t.c → Corner x t

pub to_corner : (x : ℕ) (t : Triangle) → In x (corners (t ∷ [])) → Corner x t
to_corner x t (inl e) = at_a e
to_corner x t (inr (inl e)) = at_b e
to_corner x t (inr (inr (inl e))) = at_c e
to_corner x t (inr (inr (inr z))) = absurd z

pub from_corner : (x : ℕ) (t : Triangle) → Corner x t → In x (corners (t ∷ []))
from_corner x t (at_a e) = inl e
from_corner x t (at_b e) = inr (inl e)
from_corner x t (at_c e) = inr (inr (inl e))

-- where all corners of t are corners of u, all corners of u are corners of t
pub cover : (t u : Triangle) → ThreeCorners t → Corner t.a u → Corner t.b u → Corner t.c u → (x : ℕ) → Corner x u → Corner x t
cover t u c (at_a p) (at_a q) (at_a r) x y = absurd (c.ab (p ∙ sym q))
cover t u c (at_a p) (at_a q) (at_b r) x y = absurd (c.ab (p ∙ sym q))
cover t u c (at_a p) (at_a q) (at_c r) x y = absurd (c.ab (p ∙ sym q))
cover t u c (at_a p) (at_b q) (at_a r) x y = absurd (c.ca (r ∙ sym p))
cover t u c (at_a p) (at_b q) (at_b r) x y = absurd (c.bc (q ∙ sym r))
cover t u c (at_a p) (at_b q) (at_c r) x (at_a y) = at_a (y ∙ sym p)
cover t u c (at_a p) (at_b q) (at_c r) x (at_b y) = at_b (y ∙ sym q)
cover t u c (at_a p) (at_b q) (at_c r) x (at_c y) = at_c (y ∙ sym r)
cover t u c (at_a p) (at_c q) (at_a r) x y = absurd (c.ca (r ∙ sym p))
cover t u c (at_a p) (at_c q) (at_b r) x (at_a y) = at_a (y ∙ sym p)
cover t u c (at_a p) (at_c q) (at_b r) x (at_b y) = at_c (y ∙ sym r)
cover t u c (at_a p) (at_c q) (at_b r) x (at_c y) = at_b (y ∙ sym q)
cover t u c (at_a p) (at_c q) (at_c r) x y = absurd (c.bc (q ∙ sym r))
cover t u c (at_b p) (at_a q) (at_a r) x y = absurd (c.bc (q ∙ sym r))
cover t u c (at_b p) (at_a q) (at_b r) x y = absurd (c.ca (r ∙ sym p))
cover t u c (at_b p) (at_a q) (at_c r) x (at_a y) = at_b (y ∙ sym q)
cover t u c (at_b p) (at_a q) (at_c r) x (at_b y) = at_a (y ∙ sym p)
cover t u c (at_b p) (at_a q) (at_c r) x (at_c y) = at_c (y ∙ sym r)
cover t u c (at_b p) (at_b q) (at_a r) x y = absurd (c.ab (p ∙ sym q))
cover t u c (at_b p) (at_b q) (at_b r) x y = absurd (c.ab (p ∙ sym q))
cover t u c (at_b p) (at_b q) (at_c r) x y = absurd (c.ab (p ∙ sym q))
cover t u c (at_b p) (at_c q) (at_a r) x (at_a y) = at_c (y ∙ sym r)
cover t u c (at_b p) (at_c q) (at_a r) x (at_b y) = at_a (y ∙ sym p)
cover t u c (at_b p) (at_c q) (at_a r) x (at_c y) = at_b (y ∙ sym q)
cover t u c (at_b p) (at_c q) (at_b r) x y = absurd (c.ca (r ∙ sym p))
cover t u c (at_b p) (at_c q) (at_c r) x y = absurd (c.bc (q ∙ sym r))
cover t u c (at_c p) (at_a q) (at_a r) x y = absurd (c.bc (q ∙ sym r))
cover t u c (at_c p) (at_a q) (at_b r) x (at_a y) = at_b (y ∙ sym q)
cover t u c (at_c p) (at_a q) (at_b r) x (at_b y) = at_c (y ∙ sym r)
cover t u c (at_c p) (at_a q) (at_b r) x (at_c y) = at_a (y ∙ sym p)
cover t u c (at_c p) (at_a q) (at_c r) x y = absurd (c.ca (r ∙ sym p))
cover t u c (at_c p) (at_b q) (at_a r) x (at_a y) = at_c (y ∙ sym r)
cover t u c (at_c p) (at_b q) (at_a r) x (at_b y) = at_b (y ∙ sym q)
cover t u c (at_c p) (at_b q) (at_a r) x (at_c y) = at_a (y ∙ sym p)
cover t u c (at_c p) (at_b q) (at_b r) x y = absurd (c.bc (q ∙ sym r))
cover t u c (at_c p) (at_b q) (at_c r) x y = absurd (c.ca (r ∙ sym p))
cover t u c (at_c p) (at_c q) (at_a r) x y = absurd (c.ab (p ∙ sym q))
cover t u c (at_c p) (at_c q) (at_b r) x y = absurd (c.ab (p ∙ sym q))
cover t u c (at_c p) (at_c q) (at_c r) x y = absurd (c.ab (p ∙ sym q))

pub within : (t u : Triangle) → Corner t.a u → Corner t.b u → Corner t.c u → (x : ℕ) → Corner x t → Corner x u
within t u p q r x (at_a e) = subst (λ (y : ℕ). Corner y u) (sym e) p
within t u p q r x (at_b e) = subst (λ (y : ℕ). Corner y u) (sym e) q
within t u p q r x (at_c e) = subst (λ (y : ℕ). Corner y u) (sym e) r

next_side<3 : (k : ℕ) → next_side k < 3
next_side<3 k = omega arith

module _ (P E : ℕ) (ts : List Triangle) (A : Accepted P E ts) where
  pub edge_apart :
      (t : Triangle) → ThreeCorners t → ((k : ℕ) → In (use_at t k) (uses ts)) → (k j : ℕ) → k < 3 → j < 3 → (by_side t).edge k ≡ (by_side t).edge j → k ≡ j
  edge_apart t h i k j a b e = go (A.matching.one_pair (use_at t k) (use_at t j) (i k) (i j) (sym (edge_of_lem t k) ∙ e ∙ edge_of_lem t j))
    where
      go : SameEnds (use_at t k) (use_at t j) → k ≡ j
      go (inl x) = corner_apart t h k j a b (start_of t k ∙ x.0 ∙ sym (start_of t j))
      go (inr x) =
          let c : k ≡ next_side j = corner_apart t h k (next_side j) a (next_side<3 j) (start_of t k ∙ x.0 ∙ sym (stop_of t j b)) in
          let d : next_side k ≡ j = corner_apart t h (next_side k) j (next_side<3 k) b (stop_of t k a ∙ x.1 ∙ sym (start_of t j)) in
          absurd (let z : ⊥ = omega arith in z)

  module _
      (t u : Triangle) (it : (k : ℕ) → In (use_at t k) (uses ts)) (iu : (k : ℕ) → In (use_at u k) (uses ts)) (ct : ThreeCorners t) (cu : ThreeCorners u)
      (way : (e p q : ℕ) → way_count e p q (uses (t ∷ [])) + way_count e p q (uses (u ∷ [])) ≤ 1) (df : Differ t u)
    where
      -- the two do not walk one edge in one direction
      not_along : (k j : ℕ) → (use_at t k).edge ≡ (use_at u j).edge → (use_at t k).start ≡ (use_at u j).start → (use_at t k).stop ≡ (use_at u j).stop → ⊥
      not_along k j e p q =
          let x = in_way_count (use_at t k) (uses (t ∷ [])) (in_uses t [] k) in
          let y = in_way_count (use_at u j) (uses (u ∷ [])) (in_uses u [] j) in
          let a = way (use_at u j).edge (use_at u j).start (use_at u j).stop in
          let b : way_count (use_at t k).edge (use_at t k).start (use_at t k).stop (uses (t ∷ [])) ≡ way_count (use_at u j).edge (use_at u j).start (use_at u j).stop (uses (t ∷ []))
          = λ i. way_count (e i) (p i) (q i) (uses (t ∷ [])) in
          omega arith

      opposite :
          (k j : ℕ) → k < 3 → j < 3 → (by_side t).edge k ≡ (by_side u).edge j
          → ((by_side t).corner k ≡ (by_side u).corner (next_side j)) × ((by_side t).corner (next_side k) ≡ (by_side u).corner j)
      opposite k j a b e = go (A.matching.one_pair (use_at t k) (use_at u j) (it k) (iu j) d)
        where
          d : (use_at t k).edge ≡ (use_at u j).edge
          d = sym (edge_of_lem t k) ∙ e ∙ edge_of_lem u j

          go : SameEnds (use_at t k) (use_at u j) → ((by_side t).corner k ≡ (by_side u).corner (next_side j)) × ((by_side t).corner (next_side k) ≡ (by_side u).corner j)
          go (inl x) = absurd (not_along k j d x.0 x.1)
          go (inr x) = (start_of t k ∙ x.0 ∙ sym (stop_of u j b), stop_of t k a ∙ x.1 ∙ sym (start_of u j))

      ordered : (k j : ℕ) → k < 3 → j < 3 → (by_side t).corner k ≡ (by_side u).corner j → (by_side t).corner (next_side k) ≡ (by_side u).corner (next_side j) → ⊥
      ordered k j a b p q =
          let x : (use_at t k).start ≡ (use_at u j).start = sym (start_of t k) ∙ p ∙ start_of u j in
          let y : (use_at t k).stop ≡ (use_at u j).stop = sym (stop_of t k a) ∙ q ∙ stop_of u j b in
          not_along k j (A.matching.one_edge (use_at t k) (use_at u j) (it k) (iu j) (inl (x, y))) x y

      corner_in : (k m : ℕ) → m < 3 → (by_side t).corner k ≡ (by_side u).corner m → Corner ((by_side t).corner k) u
      corner_in k zero l e = at_a e
      corner_in k (suc zero) l e = at_b e
      corner_in k (suc (suc zero)) l e = at_c e
      corner_in k (suc (suc (suc m))) l e = absurd (let z : ⊥ = omega arith in z)

      met : (k : ℕ) → Meets (by_side t) (by_side u) k → Corner ((by_side t).corner k) u
      met k m = corner_in k m.m m.m<3 m.is

      same_corners : Corner t.a u → Corner t.b u → Corner t.c u → ⊥
      same_corners p q r =
          df (λ x. (λ i. from_corner x u (within t u p q r x (to_corner x t i)), λ i. from_corner x t (cover t u ct p q r x (to_corner x u i))))

      differ : (k : ℕ) → k < 3 → Meets (by_side t) (by_side u) k → Meets (by_side t) (by_side u) (next_side k) → Meets (by_side t) (by_side u) (next_side (next_side k)) → ⊥
      differ zero l x y z = same_corners (met 0 x) (met 1 y) (met 2 z)
      differ (suc zero) l x y z = same_corners (met 0 z) (met 1 x) (met 2 y)
      differ (suc (suc zero)) l x y z = same_corners (met 0 y) (met 1 z) (met 2 x)
      differ (suc (suc (suc k))) l x y z = absurd (let z : ⊥ = omega arith in z)

      pub beside : Beside (by_side t) (by_side u)
      beside =
          record {
            own = corner_apart t ct;
            corners = corner_apart u cu;
            edges = edge_apart u cu iu;
            opposite = opposite;
            ordered = ordered;
            differ = differ;
          }
