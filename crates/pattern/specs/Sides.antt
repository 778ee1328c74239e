-- The directed sides of faces, of a path, and how often one occurs.
use Rattle.std.specs.Prelude.{List, [], ◌∷◌, ◌++◌, Bool, true, false, ℕ, ◌+◌, eqb}
use Rattle.shape.specs.Sides.{both, tick}
use Rattle.pattern.specs.Ring.{Face}

abbrev pub Side : Type 0 → Type 0
Side X = X × X

module _ {X : Type 0} where
  -- p to q, q to s, s to p of each face
  abbrev pub face_sides : List (Face X) → List (Side X)
  face_sides [] = []
  face_sides (t ∷ ts) = (t.0, t.1) ∷ (t.1, t.2) ∷ (t.2, t.0) ∷ face_sides ts

  abbrev pub path_from : X → List X → List (Side X)
  path_from x [] = []
  path_from x (y ∷ ys) = (x, y) ∷ path_from y ys

  -- each two successive ones
  abbrev pub path_sides : List X → List (Side X)
  path_sides [] = []
  path_sides (x ∷ xs) = path_from x xs

  -- what strips show: each two successive ones of each
  abbrev pub shown_by : List (List X) → List (Side X)
  shown_by [] = []
  shown_by (s ∷ ss) = path_sides s ++ shown_by ss

abbrev pub either : Bool → Bool → Bool
either true b = true
either false b = b

-- by a test eq of two names
module _ {X : Type 0} (eq : X → X → Bool) where
  abbrev pub same : X → X → Side X → Bool
  same p q s = both (eq p s.0) (eq q s.1)

  -- how often p to q occurs
  abbrev pub count : X → X → List (Side X) → ℕ
  count p q [] = 0
  count p q (s ∷ l) = tick (same p q s) (count p q l)

  -- how often p to q occurs, or q to p
  abbrev pub joins : X → X → List (Side X) → ℕ
  joins p q l = count p q l + count q p l

  -- whether p is in the list
  abbrev pub among : X → List X → Bool
  among p [] = false
  among p (x ∷ l) = either (eq p x) (among p l)

-- each side the other way round
abbrev pub back : {X : Type 0} → List (Side X) → List (Side X)
back [] = []
back (s ∷ l) = (s.1, s.0) ∷ back l

abbrev pub map_side : {X Y : Type 0} → (X → Y) → Side X → Side Y
map_side f s = (f s.0, f s.1)

-- how often x occurs
abbrev pub occ : ℕ → List ℕ → ℕ
occ x [] = 0
occ x (y ∷ l) = tick (eqb x y) (occ x l)
