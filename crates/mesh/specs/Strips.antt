-- The line strips of a mesh, every break closing one, and what they show.
use Rattle.std.specs.Prelude.{◌≡◌, ℕ, ◌+◌, ◌-◌, ◌*◌, ◌<◌, ◌≤◌, Bool, true, false, List, [], ◌∷◌, ◌++◌, map, length, Some, None, Option, nat_eq}
use Rattle.pattern.specs.Amounts.{lengths, triangle_line_numbers, triangle_line_breaks}
use Rattle.pattern.specs.Place.{Patch, patch_strips, patch_closing}
use Rattle.pattern.specs.Sides.{Side, among, joins, shown_by}
use Rattle.shape.specs.declared.triangle.Triangle.{Triangle}
use Rattle.shape.specs.Lists.{Each}
use Rattle.shape.specs.Questions.{Accepted}
use Rattle.shape.specs.Sides.{Use, uses}
use Rattle.mesh.specs.Numbering.{Numbering, Reached, edge_of}
use Rattle.mesh.specs.Faces.{at, patches, faces, faces_of, face_numbers, sides, edge_path}

-- the strips of one triangle, none where there is no such triangle
abbrev pub strips_or_none : Numbering → Option Patch → List (List ℕ)
strips_or_none N None = []
strips_or_none N (Some t) = patch_strips N.n (edge_of N) t

abbrev pub strips_of : List Triangle → Numbering → ℕ → List (List ℕ)
strips_of ts N t = strips_or_none N (at (patches ts N) t)

-- one more in front, unless it is seen
abbrev pub unless_seen : {X : Type 0} → Bool → X → List X → List X
unless_seen true x l = l
unless_seen false x l = x ∷ l

-- each edge once, where it is first used
abbrev pub major_from : List ℕ → Numbering → List Use → List (List ℕ)
major_from seen N [] = []
major_from seen N (u ∷ us) = unless_seen (among nat_eq u.edge seen) (edge_path N u) (major_from (u.edge ∷ seen) N us)

-- the strips of the major edges, which are the base's
abbrev pub major_strips : List Triangle → Numbering → List (List ℕ)
major_strips ts N = major_from [] N (uses ts)

-- the strips of each triangle, and one more break after each, which closes an empty strip
abbrev pub patches_strips : ℕ → (ℕ → List ℕ) → List Patch → List (List ℕ)
patches_strips n E [] = []
patches_strips n E (t ∷ ts) = patch_strips n E t ++ ([] ∷ patches_strips n E ts)

-- the strips of the full line drawing: all triangles, then the major edges
abbrev pub strips : List Triangle → Numbering → List (List ℕ)
strips ts N = patches_strips N.n (edge_of N) (patches ts N) ++ major_strips ts N

-- what they show
abbrev pub shown : List Triangle → Numbering → List (Side ℕ)
shown ts N = shown_by (strips ts N)

-- the strips as they are written, each number plus the offset
abbrev pub offset_by : ℕ → List (List ℕ) → List (List ℕ)
offset_by offset ls = map (map (λ x. x + offset)) ls

-- what strips show that were written with an offset: the side between each two successive numbers, less the offset
abbrev pub shown_less : ℕ → List (List ℕ) → List (Side ℕ)
shown_less offset ls = shown_by (map (map (λ x. x - offset)) ls)

abbrev pub patches_closing : ℕ → (ℕ → List ℕ) → List Patch → List (Side ℕ)
patches_closing n E [] = []
patches_closing n E (t ∷ ts) = patch_closing n E t ++ patches_closing n E ts

-- the closing sides of all triangles
abbrev pub closing : List Triangle → Numbering → List (Side ℕ)
closing ts N = patches_closing N.n (edge_of N) (patches ts N)

-- how often the sides l show the side between p and q, in either direction, where l is what a full line drawing shows
pub record ShownOnce (ts : List Triangle) (N : Numbering) (l : List (Side ℕ)) (p q : ℕ) : Type 0 where
  pub side : 1 ≤ joins nat_eq p q (sides ts N) → joins nat_eq p q (closing ts N) ≡ 0 → joins nat_eq p q l ≡ 1
  pub closes : 1 ≤ joins nat_eq p q (closing ts N) → joins nat_eq p q l ≡ 2
  pub no_other : joins nat_eq p q (sides ts N) ≡ 0 → joins nat_eq p q l ≡ 0
  -- and a closing side is a side of a face
  pub closing_side : 1 ≤ joins nat_eq p q (closing ts N) → 1 ≤ joins nat_eq p q (sides ts N)

abbrev pub StripsOnce : Type 0
StripsOnce =
    (P E : ℕ) (ts : List Triangle) → Accepted P E ts → (N : Numbering) → Reached P E ts N → (p q : ℕ) → ShownOnce ts N (shown ts N) p q

-- n + 2 numbers an edge
abbrev pub major_numbers : Numbering → ℕ
major_numbers N = length N.edges * (N.n + 2)

abbrev pub major_breaks : Numbering → ℕ
major_breaks N = length N.edges

abbrev pub all_numbers : List Triangle → Numbering → ℕ
all_numbers ts N = length ts * triangle_line_numbers N.n + major_numbers N

abbrev pub all_breaks : List Triangle → Numbering → ℕ
all_breaks ts N = length ts * (triangle_line_breaks N.n + 1) + major_breaks N

-- how many numbers and breaks each line call writes
pub record LinesCounted (ts : List Triangle) (N : Numbering) : Type 0 where
  pub triangle_numbers : (t : ℕ) → t < length ts → lengths (strips_of ts N t) ≡ triangle_line_numbers N.n
  pub triangle_breaks : (t : ℕ) → t < length ts → length (strips_of ts N t) ≡ triangle_line_breaks N.n
  pub major_numbers_lem : lengths (major_strips ts N) ≡ major_numbers N
  pub major_breaks_lem : length (major_strips ts N) ≡ major_breaks N
  pub all_numbers_lem : lengths (strips ts N) ≡ all_numbers ts N
  pub all_breaks_lem : length (strips ts N) ≡ all_breaks ts N

abbrev pub LinesAreCounted : Type 0
LinesAreCounted = (P E : ℕ) (ts : List Triangle) → Accepted P E ts → (N : Numbering) → Reached P E ts N → LinesCounted ts N

-- every number of a face or a strip is a vertex's
pub record NumbersBelow (ts : List Triangle) (N : Numbering) : Type 0 where
  pub triangle_faces : (t : ℕ) → Each (λ x. x < N.total) (face_numbers (faces_of ts N t))
  pub all_faces : Each (λ x. x < N.total) (face_numbers (faces ts N))
  pub triangle_lines : (t : ℕ) → Each (Each (λ x. x < N.total)) (strips_of ts N t)
  pub major_lines : Each (Each (λ x. x < N.total)) (major_strips ts N)
  pub all_lines : Each (Each (λ x. x < N.total)) (strips ts N)

abbrev pub NumbersAreBelow : Type 0
NumbersAreBelow = (P E : ℕ) (ts : List Triangle) → Accepted P E ts → (N : Numbering) → Reached P E ts N → NumbersBelow ts N
