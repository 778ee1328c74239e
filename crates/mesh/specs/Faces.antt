-- The faces of a mesh, its boundary, and what holds of the faces' sides.
use Rattle.std.specs.Prelude.{◌≡◌, ℕ, zero, suc, ◌+◌, ◌*◌, ◌<◌, ◌≤◌, Bool, cond, not, List, [], ◌∷◌, ◌++◌, length, Some, None, Option, ◌==◌, nat_eq}
use Rattle.pattern.specs.Place.{BySide, Patch, patch_faces, all_faces}
use Rattle.pattern.specs.Ring.{pick, Face}
use Rattle.pattern.specs.Sides.{Side, among, count, joins, face_sides, path_sides}
use Rattle.pattern.specs.Step.{NumberedContents}
use Rattle.shape.specs.declared.triangle.Triangle.{Triangle}
use Rattle.shape.specs.Lists.{In, Each}
use Rattle.shape.specs.Questions.{Accepted}
use Rattle.shape.specs.Sides.{Use, uses, use_count}
use Rattle.mesh.specs.Numbering.{Numbering, Reached, edge_of}

abbrev pub by_side : Triangle → BySide
by_side t = record { corner = λ k. pick k t.a t.b t.c; edge = λ k. pick k t.ab t.bc t.ca }

-- the first use of edge e, in triangle order, there ab, bc, ca
abbrev pub first_use : ℕ → List Use → Use
first_use e [] = record { edge = 0; start = 0; stop = 0 }
first_use e (u ∷ us) = cond (e == u.edge) u (first_use e us)

-- whether side k of t is the first use of its edge, where seen are the edges used before
abbrev pub forward : List ℕ → Triangle → ℕ → Bool
forward seen t k =
    pick k (not (among nat_eq t.ab seen)) (not (among nat_eq t.bc (t.ab ∷ seen))) (not (among nat_eq t.ca (t.bc ∷ t.ab ∷ seen)))

-- each triangle with its contents, and the way it reads its edges: forward the one that it is the first to use, backward any other
abbrev pub patches_from : List ℕ → List Triangle → List NumberedContents → List Patch
patches_from seen [] gs = []
patches_from seen (t ∷ ts) [] = []
patches_from seen (t ∷ ts) (g ∷ gs) =
    record { tri = by_side t; forth = forward seen t; inner = g } ∷ patches_from (t.ca ∷ t.bc ∷ t.ab ∷ seen) ts gs

abbrev pub patches : List Triangle → Numbering → List Patch
patches ts N = patches_from [] ts N.contents

-- t reads side k forward exactly where it walks the edge from where the edge's first use starts
abbrev pub Reads : List Triangle → Patch → Type 0
Reads ts t = (k : ℕ) → k < 3 → t.forth k ≡ ((first_use (t.tri.edge k) (uses ts)).start == t.tri.corner k)

-- so which way an edge is read is a matter of the base alone
abbrev pub ReadingsStand : Type 0
ReadingsStand = (P E : ℕ) (ts : List Triangle) → Accepted P E ts → (N : Numbering) → Each (Reads ts) (patches ts N)

-- the element at a position, and none beyond the list
abbrev pub at : {X : Type 0} → List X → ℕ → Option X
at [] i = None
at (x ∷ xs) zero = Some x
at (x ∷ xs) (suc i) = at xs i

-- the faces of one triangle, none where there is no such triangle
abbrev pub faces_or_none : Numbering → Option Patch → List (Face ℕ)
faces_or_none N None = []
faces_or_none N (Some t) = patch_faces N.n (edge_of N) t

abbrev pub faces_of : List Triangle → Numbering → ℕ → List (Face ℕ)
faces_of ts N t = faces_or_none N (at (patches ts N) t)

-- the whole face list: triangle after triangle
abbrev pub faces : List Triangle → Numbering → List (Face ℕ)
faces ts N = all_faces N.n (edge_of N) (patches ts N)

-- the numbers written for faces, three each
abbrev pub face_numbers : List (Face ℕ) → List ℕ
face_numbers [] = []
face_numbers (t ∷ l) = t.0 ∷ t.1 ∷ t.2 ∷ face_numbers l

-- and the faces that such numbers tell
abbrev pub triples : List ℕ → List (Face ℕ)
triples [] = []
triples (p ∷ []) = []
triples (p ∷ (q ∷ [])) = []
triples (p ∷ (q ∷ (s ∷ l))) = (p, q, s) ∷ triples l

-- each face's three sides, as they are walked
abbrev pub sides : List Triangle → Numbering → List (Side ℕ)
sides ts N = face_sides (faces ts N)

-- an edge, forward: the first corner, its vertices, the second corner
abbrev pub edge_path : Numbering → Use → List ℕ
edge_path N u = u.start ∷ (edge_of N u.edge ++ (u.stop ∷ []))

-- p and q are successive, corners included, on an edge that only one triangle uses
pub record OnBoundary (ts : List Triangle) (N : Numbering) (p q : ℕ) : Type 0 where
  pub u : Use
  pub used : In u (uses ts)
  pub alone : use_count u.edge (uses ts) ≡ 1
  pub successive : 1 ≤ joins nat_eq p q (path_sides (edge_path N u))

-- p to q is among the sides l once; and q to p is, and that once, exactly when the side is not on the boundary
pub record SideOnce (ts : List Triangle) (N : Numbering) (l : List (Side ℕ)) (p q : ℕ) : Type 0 where
  pub once : count nat_eq p q l ≡ 1
  pub inner : (OnBoundary ts N p q → ⊥) → count nat_eq q p l ≡ 1
  pub outer : OnBoundary ts N p q → count nat_eq q p l ≡ 0

-- of every side of a face
abbrev pub SidesOnce : Type 0
SidesOnce =
    (P E : ℕ) (ts : List Triangle) → Accepted P E ts → (N : Numbering) → Reached P E ts N → (p q : ℕ) → 1 ≤ count nat_eq p q (sides ts N)
    → SideOnce ts N (sides ts N) p q

-- 3 × (n + 1) × (n + 1) numbers a triangle
abbrev pub triangle_face_numbers : Numbering → ℕ
triangle_face_numbers N = 3 * ((N.n + 1) * (N.n + 1))

abbrev pub all_face_numbers : List Triangle → Numbering → ℕ
all_face_numbers ts N = length ts * triangle_face_numbers N

pub record FacesCounted (ts : List Triangle) (N : Numbering) : Type 0 where
  pub triangle : (t : ℕ) → t < length ts → length (face_numbers (faces_of ts N t)) ≡ triangle_face_numbers N
  pub all : length (face_numbers (faces ts N)) ≡ all_face_numbers ts N

abbrev pub FacesAreCounted : Type 0
FacesAreCounted = (P E : ℕ) (ts : List Triangle) → Accepted P E ts → (N : Numbering) → Reached P E ts N → FacesCounted ts N
