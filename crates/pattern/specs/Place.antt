-- A triangle of a mesh: its faces and its strips, from its points, its edges' lists and its contents.
use Rattle.std.specs.Prelude.{List, [], ◌∷◌, ◌++◌, Bool, cond, ℕ, suc, ◌+◌, ◌-◌, ◌%◌, get_or}
use Rattle.pattern.specs.Ring.{Face, triangle_faces, triangle_strips, triangle_closing}
use Rattle.pattern.specs.Sides.{Side}
use Rattle.pattern.specs.Spot.{Spot}
use Rattle.pattern.specs.Step.{NumberedContents, view}
use Rattle.pattern.specs.Vertex.{vertex_of}

-- A triangle by the numbers 0, 1, 2 of its sides ab, bc, ca: the corner where side k starts, and the side's edge number.
pub record BySide : Type 0 where
  pub corner : ℕ → ℕ
  pub edge : ℕ → ℕ

-- the side after side k, which starts where side k ends
abbrev pub next_side : ℕ → ℕ
next_side k = (k + 1) % 3

-- A patch is a triangle of a mesh: with the way it reads each edge, forward or not, and its contents.
pub record Patch : Type 0 where
  pub tri : BySide
  pub forth : ℕ → Bool
  pub inner : NumberedContents

-- where in a list of n numbers the one stands that is read at i, forward or backward
abbrev pub turned : ℕ → Bool → ℕ → ℕ
turned n b i = cond b i (n - suc i)

-- the number that triangle t reads at i of its side k, where E has the numbers of each edge, n of them
abbrev pub reading : ℕ → (ℕ → List ℕ) → Patch → ℕ → ℕ → ℕ
reading n E t k i = get_or (E (t.tri.edge k)) (turned n (t.forth k) i) 0

-- the vertex at each spot of a patch
abbrev pub patch_vertex : ℕ → (ℕ → List ℕ) → Patch → Spot → ℕ
patch_vertex n E t =
    vertex_of (t.tri.corner 0) (t.tri.corner 1) (t.tri.corner 2) (reading n E t 0) (reading n E t 1) (reading n E t 2) (view t.inner)

-- the faces and the strips of a patch
abbrev pub patch_faces : ℕ → (ℕ → List ℕ) → Patch → List (Face ℕ)
patch_faces n E t =
    triangle_faces n (t.tri.corner 0) (t.tri.corner 1) (t.tri.corner 2) (reading n E t 0) (reading n E t 1) (reading n E t 2) (view t.inner)

abbrev pub patch_strips : ℕ → (ℕ → List ℕ) → Patch → List (List ℕ)
patch_strips n E t =
    triangle_strips n (t.tri.corner 0) (t.tri.corner 1) (t.tri.corner 2) (reading n E t 0) (reading n E t 1) (reading n E t 2) (view t.inner)

abbrev pub patch_closing : ℕ → (ℕ → List ℕ) → Patch → List (Side ℕ)
patch_closing n E t =
    triangle_closing n (t.tri.corner 0) (t.tri.corner 1) (t.tri.corner 2) (reading n E t 0) (reading n E t 1) (reading n E t 2) (view t.inner)

-- the whole face list
abbrev pub all_faces : ℕ → (ℕ → List ℕ) → List Patch → List (Face ℕ)
all_faces n E [] = []
all_faces n E (t ∷ ts) = patch_faces n E t ++ all_faces n E ts
