-- What the lists of a mesh's table stand on.
use Rattle.std.specs.Prelude.{◌≡◌, ℕ, ◌⊎◌, List, [], length}
use Rattle.growing.specs.declared.edge.Edge.{Edge}
use Rattle.growing.specs.Standing.{numbering, Stands}
use Rattle.mesh.specs.Numbering.{Reached}
use Rattle.rings.specs.declared.contents.Ring.{Ring}
use Rattle.rings.specs.declared.contents.TriangleContents.{TriangleContents}
use Rattle.shape.specs.declared.triangle.Triangle.{Triangle}
use Rattle.shape.specs.Questions.{Accepted}
use Rattle.table.specs.declared.forward.Forward.{Forward}
use Rattle.table.specs.Forwards.{forwards}

-- no points, no edges and no triangles: the base of the blank mesh
pub record NoBase (P E : ℕ) (ts : List Triangle) : Type 0 where
  pub no_points : P ≡ 0
  pub no_edges : E ≡ 0
  pub no_triangles : ts ≡ []

-- an accepted base of P points, or none; a numbering that makings and subdivisions give over it; edges and contents of that count;
-- and the triangles' readings
pub record Sound (P : ℕ) (ts : List Triangle) (fs : List Forward) (es : List Edge) (cs : List TriangleContents) (rs : List Ring) (n total : ℕ) : Type 0 where
  pub base : Accepted P (length es) ts ⊎ NoBase P (length es) ts
  pub reached : Reached P (length es) ts (numbering n total es cs rs)
  pub stands : Stands n es cs rs
  pub reads : fs ≡ forwards ts
