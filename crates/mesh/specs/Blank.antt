-- The mesh that a refused making leaves, however often it is subdivided: it has no points, edges or triangles.
use Rattle.std.specs.Prelude.{◌≡◌, ℕ, ◌≤◌, T, [], Some, None}
use Rattle.refusal.specs.declared.Refusal.TheVariants.{NoTriangle}
use Rattle.mesh.specs.Calls.{Ask, triangle_faces, all_faces, triangle_lines, major_lines, all_lines, fill, refusal, numbers_written, strips_written}
use Rattle.mesh.specs.Numbering.{Numbering, Reached}
use Rattle.mesh.specs.Sinks.{Sink}

pub record BlankMesh (N : Numbering) : Type 0 where
  pub no_vertex : N.total ≡ 0
  pub no_edges : N.edges ≡ []
  pub no_contents : N.contents ≡ []
  -- calls for one triangle are refused with 12
  pub no_faces_of : (t room : ℕ) → refusal [] N (triangle_faces t room) ≡ Some (NoTriangle t 0)
  pub no_lines_of : (t offset : ℕ) (s : Sink) → refusal [] N (triangle_lines t offset s) ≡ Some (NoTriangle t 0)
  -- the others need no space
  pub all_faces_pass : (room : ℕ) → refusal [] N (all_faces room) ≡ None
  pub major_lines_pass : (offset : ℕ) (s : Sink) → offset ≤ 4294967295 → T (s.takes 0 0) → refusal [] N (major_lines offset s) ≡ None
  pub all_lines_pass : (offset : ℕ) (s : Sink) → offset ≤ 4294967295 → T (s.takes 0 0) → refusal [] N (all_lines offset s) ≡ None
  pub fill_passes : (room : ℕ) → refusal [] N (fill room) ≡ None
  -- and nothing is written, not even a break
  pub no_numbers : (a : Ask) → numbers_written [] N a ≡ []
  pub no_strips : (a : Ask) → strips_written [] N a ≡ []

abbrev pub BlankStands : Type 0
BlankStands = (N : Numbering) → Reached 0 0 [] N → BlankMesh N
