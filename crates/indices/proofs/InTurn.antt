-- The faces of the first triangles, one after another.
use Rattle.std.proofs.Common.{◌≡◌, ℕ, zero, suc, ◌<◌, ◌≤◌, List, [], ◌∷◌, ◌++◌, length, vec_items, vec_len, sym, refl, ap, ◌∙◌, ap₂, append_assoc, append-nil, arith}
use lib.ListN.{length-map}
use mathlib.Core.Logic.{∥∥₁_elim}
use mathlib.Core.List.{is_set}
use native.Mathlib.Bridge.{le_prop}
use native.Mathlib.Nat.{ℕ_set}
use Rattle.pattern.specs.Place.{Patch, patch_faces, all_faces}
use Rattle.pattern.specs.Ring.{Face}
use Rattle.pattern.specs.Step.{NumberedContents}
use Rattle.growing.specs.declared.edge.Edge.{Edge}
use Rattle.growing.specs.Standing.{numbering}
use Rattle.growing.specs.SteppingAll.{all_held}
use Rattle.mesh.specs.Faces.{at, face_numbers, faces, faces_of, faces_or_none, patches, patches_from}
use Rattle.mesh.specs.Numbering.{Numbering, edge_of}
use Rattle.rings.specs.declared.contents.Ring.{Ring}
use Rattle.rings.specs.declared.contents.TriangleContents.{TriangleContents}
use Rattle.rings.specs.Held.{held}
use Rattle.shape.specs.declared.triangle.Triangle.{Triangle}
use Rattle.table.specs.declared.forward.Forward.{Forward}
use Rattle.table.specs.declared.table.Table.{Table}
use Rattle.table.specs.Sound.{Sound}
use Rattle.table.specs.Tables as tables
use Rattle.table.proofs.Facts as facts
use Rattle.faces.proofs.Writing.{numbers-append}
use Rattle.indices.proofs.InTable.{table_numbers}

-- F 0, F 1, .., F (k - 1)
abbrev pub in_turn : (ℕ → List (Face ℕ)) → ℕ → List (Face ℕ)
in_turn F zero = []
in_turn F (suc k) = in_turn F k ++ F k

first_apart : (F : ℕ → List (Face ℕ)) (k : ℕ) → in_turn F (suc k) ≡ F 0 ++ in_turn (λ j. F (suc j)) k
first_apart F zero = sym (append-nil (F 0))
first_apart F (suc k) = ap (λ l. l ++ F (suc k)) (first_apart F k) ∙ append_assoc (F 0) (in_turn (λ j. F (suc j)) k) (F (suc k))

all_in_turn : (N : Numbering) (ps : List Patch) → all_faces N.n (edge_of N) ps ≡ in_turn (λ k. faces_or_none N (at ps k)) (length ps)
all_in_turn N [] = refl
all_in_turn N (p ∷ ps) = ap (λ l. patch_faces N.n (edge_of N) p ++ l) (all_in_turn N ps) ∙ sym (first_apart (λ k. faces_or_none N (at (p ∷ ps) k)) (length ps))

as_many : (seen : List ℕ) (ts : List Triangle) (gs : List NumberedContents) → length gs ≡ length ts → length (patches_from seen ts gs) ≡ length ts
as_many seen [] gs e = refl
as_many seen (t ∷ ts) [] e = absurd (omega arith)
as_many seen (t ∷ ts) (g ∷ gs) e = ap suc (as_many (t.ca ∷ t.bc ∷ t.ab ∷ seen) ts gs (omega arith))

pub same_numbers :
    (F G : ℕ → List (Face ℕ)) (k : ℕ) → ((j : ℕ) → j < k → face_numbers (F j) ≡ face_numbers (G j)) → face_numbers (in_turn F k) ≡ face_numbers (in_turn G k)
same_numbers F G zero h = refl
same_numbers F G (suc k) h =
    numbers-append (in_turn F k) (F k) ∙ ap₂ (λ x y. x ++ y) (same_numbers F G k (λ j l. h j (omega arith))) (h k (omega arith))
    ∙ sym (numbers-append (in_turn G k) (G k))

module _ (P : ℕ) (ts : List Triangle) (fs : List Forward) (es : List Edge) (cs : List TriangleContents) (rs : List Ring) (n total : ℕ) where
  whole_in_turn : Sound P ts fs es cs rs n total → faces ts (numbering n total es cs rs) ≡ in_turn (faces_of ts (numbering n total es cs rs)) (length ts)
  whole_in_turn s =
      let N : Numbering = numbering n total es cs rs in
      let e : length (all_held rs cs) ≡ length ts = omega (arith, facts.contents_many P ts fs es cs rs n total s, length-map cs (held rs 3)) in
      all_in_turn N (patches ts N) ∙ ap (in_turn (faces_of ts N)) (as_many [] ts (all_held rs cs) e)

  pub whole_numbers :
      ∥ Sound P ts fs es cs rs n total ∥₁
      → face_numbers (faces ts (numbering n total es cs rs)) ≡ face_numbers (in_turn (faces_of ts (numbering n total es cs rs)) (length ts))
  whole_numbers S = ∥∥₁_elim S (is_set ℕ_set _ _) (λ s. ap face_numbers (whole_in_turn s))

pub table_whole :
    (t : Table) → face_numbers (faces (tables.triangles t) (tables.numbering t)) ≡ face_numbers (in_turn (faces_of (tables.triangles t) (tables.numbering t)) (length (tables.triangles t)))
table_whole t =
    whole_numbers (vec_len t.points) (vec_items t.triangles) (vec_items t.forward) (vec_items t.edges) (vec_items t.contents) (vec_items t.rings) t.n t.total t.sound

module _ (t : Table) where
  pub few_triangles : length (vec_items t.triangles) ≤ 32
  few_triangles =
      ∥∥₁_elim t.sound le_prop
      (λ s.
      let m = facts.contents_many (vec_len t.points) (vec_items t.triangles) (vec_items t.forward) (vec_items t.edges) (vec_items t.contents) (vec_items t.rings) t.n t.total s in
      let l = facts.limits (vec_len t.points) (vec_items t.triangles) (vec_items t.forward) (vec_items t.edges) (vec_items t.contents) (vec_items t.rings) t.n t.total s in
      omega (arith, m, l.few_triangles))

  -- the numbers of all faces are those of the table's triangles in turn
  pub table_in_turn :
      face_numbers (faces (tables.triangles t) (tables.numbering t))
      ≡ face_numbers (in_turn (λ k. patch_faces t.n (edge_of (tables.numbering t)) (tables.patch_at t k)) (length (tables.triangles t)))
  table_in_turn =
      table_whole t
      ∙ same_numbers (faces_of (tables.triangles t) (tables.numbering t)) (λ k. patch_faces t.n (edge_of (tables.numbering t)) (tables.patch_at t k))
      (length (tables.triangles t)) (λ j h. table_numbers t j h)
