-- Two triangles of a mesh beside one another, and how their vertices are numbered.
use mathlib.Core.Path.{◌≡◌}
use mathlib.Core.List.{List, [], ◌∷◌, ◌++◌}
use mathlib.Core.Logic.{◌⊎◌}
use mathlib.Core.Bool.{true, false}
use Prim.Native.Nat.{ℕ, suc, ◌-◌, ◌≤◌, ◌<◌}
use lib.ListN.{get_or}
use Rattle.pattern.specs.Place.{BySide, next_side, Patch, reading}
use Rattle.pattern.specs.Ring.{ring_list}
use Rattle.pattern.specs.Sides.{occ}
use Rattle.pattern.specs.Spot.{Spot, spot}
use Rattle.pattern.specs.Step.{vertices, OfCount}

-- corner k of t is also a corner of u
pub record CornerOf (t u : BySide) (k : ℕ) : Type 0 where
  pub m : ℕ
  pub m<3 : m < 3
  pub is : t.corner k ≡ u.corner m

-- two different triangles of a base
pub record Beside (t u : BySide) : Type 0 where
  -- three different corners, with three different edges
  pub own : (k j : ℕ) → k < 3 → j < 3 → t.corner k ≡ t.corner j → k ≡ j
  pub corners : (k j : ℕ) → k < 3 → j < 3 → u.corner k ≡ u.corner j → k ≡ j
  pub edges : (k j : ℕ) → k < 3 → j < 3 → u.edge k ≡ u.edge j → k ≡ j
  -- a common edge joins the same two corners, and the two triangles run along it in opposite directions
  pub opposite :
      (k j : ℕ) → k < 3 → j < 3 → t.edge k ≡ u.edge j
      → (t.corner k ≡ u.corner (next_side j)) × (t.corner (next_side k) ≡ u.corner j)
  -- two common corners are the ends of a common edge, so they do not come in the same order
  pub ordered : (k j : ℕ) → k < 3 → j < 3 → t.corner k ≡ u.corner j → t.corner (next_side k) ≡ u.corner (next_side j) → ⊥
  -- not all corners are common
  pub differ : (k : ℕ) → k < 3 → CornerOf t u k → CornerOf t u (next_side k) → CornerOf t u (next_side (next_side k)) → ⊥

-- p of t and p' of u have one vertex: both are corners, or both lie on a common edge, as far from opposite ends
pub data Same (n : ℕ) (t u : BySide) (p p' : Spot) : Type 0 where
  at_corner :
      (s s' : ℕ) → s < 3 → s' < 3 → p ≡ spot 0 s 0 → p' ≡ spot 0 s' 0 → t.corner s ≡ u.corner s' → Same n t u p p'
  on_edge :
      (s s' x : ℕ) → s < 3 → s' < 3 → 1 ≤ x → x ≤ n → p ≡ spot 0 s x → p' ≡ spot 0 s' (suc n - x) → t.edge s ≡ u.edge s'
      → Same n t u p p'

-- two different patches whose vertices are numbered apart; points have the numbers below P
pub record Placed (n P : ℕ) (E : ℕ → List ℕ) (t u : Patch) : Type 0 where
  pub beside : Beside t.tri u.tri
  pub right_t : OfCount n t.inner
  pub right_u : OfCount n u.inner
  pub point_t : (k : ℕ) → k < 3 → t.tri.corner k < P
  pub point_u : (k : ℕ) → k < 3 → u.tri.corner k < P
  pub edge_high_t : (k i : ℕ) → k < 3 → i < n → P ≤ get_or (E (t.tri.edge k)) i 0
  pub edge_high_u : (k i : ℕ) → k < 3 → i < n → P ≤ get_or (E (u.tri.edge k)) i 0
  pub inner_high_t : (x : ℕ) → 1 ≤ occ x (vertices t.inner) → P ≤ x
  pub inner_high_u : (x : ℕ) → 1 ≤ occ x (vertices u.inner) → P ≤ x
  pub edges_apart :
      (k i l j : ℕ) → k < 3 → l < 3 → i < n → j < n → get_or (E (t.tri.edge k)) i 0 ≡ get_or (E (u.tri.edge l)) j 0
      → (t.tri.edge k ≡ u.tri.edge l) × (i ≡ j)
  pub edge_inner_t : (k i : ℕ) → k < 3 → i < n → 1 ≤ occ (get_or (E (u.tri.edge k)) i 0) (vertices t.inner) → ⊥
  pub edge_inner_u : (k i : ℕ) → k < 3 → i < n → 1 ≤ occ (get_or (E (t.tri.edge k)) i 0) (vertices u.inner) → ⊥
  pub inner_apart : (x : ℕ) → 1 ≤ occ x (vertices t.inner) → 1 ≤ occ x (vertices u.inner) → ⊥
  -- of the two, one reads a common edge forward and the other backward
  pub against :
      (k j : ℕ) → k < 3 → j < 3 → t.tri.edge k ≡ u.tri.edge j
      → ((t.forth k ≡ true) × (u.forth j ≡ false)) ⊎ ((t.forth k ≡ false) × (u.forth j ≡ true))

-- no vertex of the patch twice
abbrev pub Alone : ℕ → (ℕ → List ℕ) → Patch → Type 0
Alone n E t =
    (x : ℕ)
    → occ x (ring_list n (t.tri.corner 0) (t.tri.corner 1) (t.tri.corner 2) (reading n E t 0) (reading n E t 1) (reading n E t 2) ++ vertices t.inner) ≤ 1

abbrev pub PlacedAll : ℕ → ℕ → (ℕ → List ℕ) → Patch → List Patch → Type 0
PlacedAll n P E t [] = Unit {0}
PlacedAll n P E t (u ∷ us) = Placed n P E t u × PlacedAll n P E t us

abbrev pub AllPlaced : ℕ → ℕ → (ℕ → List ℕ) → List Patch → Type 0
AllPlaced n P E [] = Unit {0}
AllPlaced n P E (t ∷ ts) = (OfCount n t.inner × Alone n E t) × PlacedAll n P E t ts × AllPlaced n P E ts
