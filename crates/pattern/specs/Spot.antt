-- The spots of a triangle at count n: ring d, side s, position i.
use Rattle.std.specs.Prelude.{List, [], ◌∷◌, ◌++◌, Bool, cond, eqb, leb, ℕ, zero, suc, ◌+◌, ◌%◌}
use Rattle.pattern.specs.Ring.{Face, Contents, none, one, three, six, more, triangle_faces, triangle_strips, triangle_closing, up, ring_list, contents_list}
use Rattle.pattern.specs.Sides.{Side, among, face_sides, path_sides, shown_by}
use Rattle.shape.specs.Sides.{both}

-- A spot is the name of a place in a triangle, whatever its vertex: ring d from outside, side s (0, 1, 2 for ab, bc, ca), and
-- position i from the corner where the side starts.
abbrev pub Spot : Type 0
Spot = ℕ × ℕ × ℕ

abbrev pub spot : ℕ → ℕ → ℕ → Spot
spot d s i = (d, s, i)

abbrev pub eq_spot : Spot → Spot → Bool
eq_spot p q = both (eqb p.2 q.2) (both (eqb p.1 q.1) (eqb p.0 q.0))

-- The border is the outer ring: the triangle's own corners and edges. This is what lies inside edges of m spots, as ring d.
abbrev pub inside : ℕ → ℕ → Contents Spot
inside d zero = none
inside d (suc zero) = none
inside d (suc (suc zero)) = one (spot d 0 0)
inside d (suc (suc (suc zero))) = three (spot d 0 0) (spot d 1 0) (spot d 2 0)
inside d (suc (suc (suc (suc zero)))) = six (spot d 0 0) (spot d 1 0) (spot d 2 0) (spot d 0 1) (spot d 1 1) (spot d 2 1)
inside d (suc (suc (suc (suc (suc k))))) =
    more (spot d 0 0) (spot d 1 0) (spot d 2 0) (suc (suc k))
    (λ i. spot d 0 (suc i)) (λ i. spot d 1 (suc i)) (λ i. spot d 2 (suc i)) (inside (suc d) (suc (suc k)))

abbrev pub spot_faces : ℕ → List (Face Spot)
spot_faces n =
    triangle_faces n (spot 0 0 0) (spot 0 1 0) (spot 0 2 0)
    (λ i. spot 0 0 (suc i)) (λ i. spot 0 1 (suc i)) (λ i. spot 0 2 (suc i)) (inside 1 n)

abbrev pub spot_strips : ℕ → List (List Spot)
spot_strips n =
    triangle_strips n (spot 0 0 0) (spot 0 1 0) (spot 0 2 0)
    (λ i. spot 0 0 (suc i)) (λ i. spot 0 1 (suc i)) (λ i. spot 0 2 (suc i)) (inside 1 n)

abbrev pub spot_sides : ℕ → List (Side Spot)
spot_sides n = face_sides (spot_faces n)

-- the spots of side k of the outer border, with the corner that it starts from, and the corner where it ends
abbrev pub border_run : ℕ → ℕ → List Spot
border_run n k = up 0 (suc n) (λ i. spot 0 k i ∷ [])

abbrev pub closed_side : ℕ → ℕ → List Spot
closed_side n k = border_run n k ++ (spot 0 ((k + 1) % 3) 0 ∷ [])

-- the directed sides of the whole outer border
abbrev pub border_sides : ℕ → List (Side Spot)
border_sides n = path_sides (closed_side n 0) ++ (path_sides (closed_side n 1) ++ path_sides (closed_side n 2))

-- the sides that the strips show
abbrev pub shown_sides : ℕ → List (Side Spot)
shown_sides n = shown_by (spot_strips n)

-- the closing side of each writing with borders of 3 or more
abbrev pub closing_sides : ℕ → List (Side Spot)
closing_sides n =
    triangle_closing n (spot 0 0 0) (spot 0 1 0) (spot 0 2 0)
    (λ i. spot 0 0 (suc i)) (λ i. spot 0 1 (suc i)) (λ i. spot 0 2 (suc i)) (inside 1 n)

-- all spots of count n
abbrev pub all_spots : ℕ → List Spot
all_spots n =
    ring_list n (spot 0 0 0) (spot 0 1 0) (spot 0 2 0)
    (λ i. spot 0 0 (suc i)) (λ i. spot 0 1 (suc i)) (λ i. spot 0 2 (suc i))
    ++ contents_list (inside 1 n)

abbrev pub is_spot : ℕ → Spot → Bool
is_spot n p = among eq_spot p (all_spots n)

-- both its ends are spots
abbrev pub ends : ℕ → Side Spot → Bool
ends n s = both (is_spot n s.0) (is_spot n s.1)

-- position x, from 0 to n + 1, of closed side k of the border
abbrev pub border_at : ℕ → ℕ → ℕ → Spot
border_at n k x = cond (leb x n) (spot 0 k x) (spot 0 ((k + 1) % 3) 0)
