-- The table of a mesh as it is made.
use Rattle.std.specs.Prelude.{◌≡◌, ℕ, List, length, vec_items, Ok, Err, Result}
use Rattle.mesh.specs.Making.{Making}
use Rattle.mesh.specs.Numbering.{made, blank}
use Rattle.point.specs.declared.Vec3A.{Vec3A}
use Rattle.refusal.specs.declared.Refusal.{Refusal}
use Rattle.shape.specs.declared.triangle.Triangle.{Triangle}
use Rattle.table.specs.declared.table.Table.{Table}
use Rattle.table.specs.Tables.{numbering}

-- a base's lists and as many edges, made at n
pub record MadeOver (points : List Vec3A) (triangles : List Triangle) (edges n : ℕ) (t : Table) : Type 0 where
  pub points_are : vec_items t.points ≡ points
  pub triangles_are : vec_items t.triangles ≡ triangles
  pub edges_are : length (vec_items t.edges) ≡ edges
  pub numbered : numbering t ≡ made (length points) edges (length triangles) n

-- what making answers: the table of the mesh, or the refusal that leaves the blank mesh
abbrev pub Answers : List Vec3A → List Triangle → (edges n : ℕ) → Result Table Refusal → Type 0
Answers points triangles edges n (Ok t) =
    MadeOver points triangles edges n t × Making (length points) edges triangles n (Ok tt) (made (length points) edges (length triangles) n)
Answers points triangles edges n (Err e) = Making (length points) edges triangles n (Err e) blank
