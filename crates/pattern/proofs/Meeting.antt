-- Several triangles at one count, each with its own vertex for each spot, and what the vertices of two of them have in common.
use mathlib.Core.Path.{◌≡◌}
use mathlib.Core.List.{List, [], ◌∷◌, ◌++◌, map}
use Prim.Native.Nat.{ℕ, suc, ◌+◌, ◌-◌, ◌≤◌, ◌<◌}
use lib.Dec.{T, eqb}
use Rattle.pattern.specs.Sides.{Side, count, joins, map_side}
use Rattle.pattern.specs.Spot.{Spot, spot_sides, border_sides, shown_sides, closing_sides, is_spot, border_at}

-- f tells the spots of count n apart
abbrev pub Apart : ℕ → (Spot → ℕ) → Type 0
Apart n f = (p q : Spot) → T (is_spot n p) → T (is_spot n q) → f p ≡ f q → p ≡ q

-- p and q lie at x and y of side k of one border, p' and q' as far from the other end of side k' of another
pub record Shared (n : ℕ) (p q p' q' : Spot) : Type 0 where
  pub k : ℕ
  pub k' : ℕ
  pub x : ℕ
  pub y : ℕ
  pub k<3 : k < 3
  pub k'<3 : k' < 3
  pub x_in : x ≤ suc n
  pub y_in : y ≤ suc n
  pub is_p : p ≡ border_at n k x
  pub is_q : q ≡ border_at n k y
  pub is_p' : p' ≡ border_at n k' (suc n - x)
  pub is_q' : q' ≡ border_at n k' (suc n - y)

-- two vertices that two triangles have in common lie on one border, which the two run along in opposite directions
abbrev pub Meet : ℕ → (Spot → ℕ) → (Spot → ℕ) → Type 0
Meet n f g =
    (p q p' q' : Spot) → T (is_spot n p) → T (is_spot n q) → T (is_spot n p') → T (is_spot n q')
    → f p ≡ g p' → f q ≡ g q' → (p ≡ q → ⊥) → Shared n p q p' q'

abbrev pub MeetAll : ℕ → (Spot → ℕ) → List (Spot → ℕ) → Type 0
MeetAll n f [] = Unit {0}
MeetAll n f (g ∷ gs) = Meet n f g × MeetAll n f gs

abbrev pub Numbered : ℕ → List (Spot → ℕ) → Type 0
Numbered n [] = Unit {0}
Numbered n (f ∷ fs) = Apart n f × MeetAll n f fs × Numbered n fs

-- a list of sides of spots, once for each triangle
abbrev pub total : List (Side Spot) → List (Spot → ℕ) → List (Side ℕ)
total l [] = []
total l (f ∷ fs) = map (map_side f) l ++ total l fs

pub record MeshLaw (n : ℕ) (fs : List (Spot → ℕ)) (P Q : ℕ) : Type 0 where
  pub once : count eqb P Q (total (spot_sides n) fs) ≤ 1
  pub paired :
      count eqb P Q (total (spot_sides n) fs) + count eqb Q P (total (border_sides n) fs)
      ≡ count eqb Q P (total (spot_sides n) fs) + count eqb P Q (total (border_sides n) fs)
  -- the borders' sides, and the closing sides in both directions, are sides of faces
  pub parts : count eqb P Q (total (border_sides n) fs) + joins eqb P Q (total (closing_sides n) fs) ≤ count eqb P Q (total (spot_sides n) fs)
  -- twice what the strips show, and the borders, are the faces' sides, and twice the closing sides
  pub shown :
      joins eqb P Q (total (shown_sides n) fs) + joins eqb P Q (total (shown_sides n) fs) + joins eqb P Q (total (border_sides n) fs)
      ≡ joins eqb P Q (total (spot_sides n) fs) + joins eqb P Q (total (closing_sides n) fs) + joins eqb P Q (total (closing_sides n) fs)

abbrev pub MeshSound : Type 0
MeshSound = (n : ℕ) → n ≤ 12 → (fs : List (Spot → ℕ)) → Numbered n fs → (P Q : ℕ) → MeshLaw n fs P Q
