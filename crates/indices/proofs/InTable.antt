-- A triangle of a mesh, as its table has it.
use Rattle.std.proofs.Common.{◌≡◌, ℕ, zero, suc, ◌<◌, List, [], ◌∷◌, length, get_or, vec_items, vec_len, Some, sym, refl, ap, ◌∙◌, arith}
use lib.ListN.{length-map}
use mathlib.Core.Logic.{∥∥₁_elim}
use mathlib.Core.List.{is_set}
use native.Mathlib.Nat.{ℕ_set}
use Rattle.pattern.specs.Place.{Patch, patch_faces}
use Rattle.pattern.specs.Ring.{pick}
use Rattle.pattern.specs.Step.{NumberedContents, None}
use Rattle.growing.specs.declared.edge.Edge.{Edge}
use Rattle.growing.specs.Standing.{numbering}
use Rattle.growing.specs.SteppingAll.{all_held, kind_at}
use Rattle.mesh.specs.Faces.{at, by_side, face_numbers, faces_of, faces_or_none, patches_from}
use Rattle.mesh.specs.Numbering.{edge_of}
use Rattle.rings.specs.declared.contents.Ring.{Ring}
use Rattle.rings.specs.declared.contents.TriangleContents.{TriangleContents}
use Rattle.rings.specs.Held.{held}
use Rattle.shape.specs.declared.triangle.Triangle.{Triangle}
use Rattle.table.specs.declared.forward.Forward.{Forward}
use Rattle.table.specs.declared.table.Table.{Table}
use Rattle.table.specs.Forwards.{forwards_from, triangle_at}
use Rattle.table.specs.Sound.{Sound}
use Rattle.table.specs.Tables as tables
use Rattle.table.specs.Views.{forward_at, patch_at}
use Rattle.table.proofs.Facts as facts

-- the triangle at a place, with its readings and contents
abbrev patch_of : Triangle → Forward → NumberedContents → Patch
patch_of t f g = record { tri = by_side t; forth = λ k. pick k f.ab f.bc f.ca; inner = g }

patch_there :
    (seen : List ℕ) (ts : List Triangle) (gs : List NumberedContents) (i : ℕ) → i < length ts → i < length gs
    → at (patches_from seen ts gs) i ≡ Some (patch_of (triangle_at ts i) (forward_at (forwards_from seen ts) i) (get_or gs i None))
patch_there seen [] gs i h k = absurd (omega arith)
patch_there seen (t ∷ ts) [] i h k = absurd (omega arith)
patch_there seen (t ∷ ts) (g ∷ gs) zero h k = refl
patch_there seen (t ∷ ts) (g ∷ gs) (suc i) h k = patch_there (t.ca ∷ t.bc ∷ t.ab ∷ seen) ts gs i (omega arith) (omega arith)

held_there : (rs : List Ring) (cs : List TriangleContents) (i : ℕ) → get_or (all_held rs cs) i None ≡ held rs 3 (kind_at cs i)
held_there rs [] i = refl
held_there rs (c ∷ cs) zero = refl
held_there rs (c ∷ cs) (suc i) = held_there rs cs i

module _ (P : ℕ) (ts : List Triangle) (fs : List Forward) (es : List Edge) (cs : List TriangleContents) (rs : List Ring) (n total : ℕ) (i : ℕ) (h : i < length ts) where
  faces_there :
      Sound P ts fs es cs rs n total
      → faces_of ts (numbering n total es cs rs) i ≡ patch_faces n (edge_of (numbering n total es cs rs)) (patch_at ts fs cs rs i)
  faces_there s =
      let many : i < length (all_held rs cs) = omega (arith, facts.contents_many P ts fs es cs rs n total s, length-map cs (held rs 3)) in
      ap (faces_or_none (numbering n total es cs rs)) (patch_there [] ts (all_held rs cs) i h many)
      ∙ (λ j. patch_faces n (edge_of (numbering n total es cs rs)) (patch_of (triangle_at ts i) (forward_at (sym s.reads j) i) (held_there rs cs i j)))

  pub numbers_there :
      ∥ Sound P ts fs es cs rs n total ∥₁
      → face_numbers (faces_of ts (numbering n total es cs rs) i) ≡ face_numbers (patch_faces n (edge_of (numbering n total es cs rs)) (patch_at ts fs cs rs i))
  numbers_there S = ∥∥₁_elim S (is_set ℕ_set _ _) (λ s. ap face_numbers (faces_there s))

-- the numbers of the faces of triangle i of a table
pub table_numbers :
    (t : Table) (i : ℕ) → i < length (vec_items t.triangles)
    → face_numbers (faces_of (tables.triangles t) (tables.numbering t) i) ≡ face_numbers (patch_faces t.n (edge_of (tables.numbering t)) (tables.patch_at t i))
table_numbers t i h =
    numbers_there (vec_len t.points) (vec_items t.triangles) (vec_items t.forward) (vec_items t.edges) (vec_items t.contents) (vec_items t.rings) t.n t.total i h
    t.sound
