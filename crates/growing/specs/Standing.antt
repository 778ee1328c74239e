-- The tables of a mesh: its edges, the contents of its triangles, and the rings.
use Rattle.std.specs.Prelude.{◌≡◌, ℕ, ◌*◌, ◌<◌, ◌≤◌, List, map, length}
use Rattle.mesh.specs.Numbering.{Numbering}
use Rattle.rings.specs.declared.contents.Ring.{Ring}
use Rattle.rings.specs.declared.contents.TriangleContents.{TriangleContents}
use Rattle.rings.specs.declared.contents.TriangleContents.TheVariants as kind
use Rattle.growing.specs.declared.edge.Edge.{Edge}
use Rattle.growing.specs.Edges.{edge_in, edge_vertices, OfLength}
use Rattle.growing.specs.SteppingAll.{all_held, AllPlaced, kind_at}

-- the vertex numbers that tables hold, with the count of subdivisions and the total
abbrev pub numbering : (n total : ℕ) → List Edge → List TriangleContents → List Ring → Numbering
numbering n total es ts rs = record { n = n; total = total; edges = map edge_vertices es; contents = all_held rs ts }

-- tables of n subdivisions: so many vertices has every edge, and of that count are the contents of every triangle
pub record Stands (n : ℕ) (es : List Edge) (ts : List TriangleContents) (rs : List Ring) : Type 0 where
  pub edges : (i : ℕ) → i < length es → OfLength n (edge_in es i)
  pub contents : AllPlaced rs n ts

-- the limits of a mesh with E edges, T triangles and so many vertices: no number is too large for u32
pub record WithinLimits (E T total : ℕ) : Type 0 where
  pub few_edges : E ≤ 96
  pub few_triangles : T ≤ 32
  pub few_vertices : total ≤ 3360

-- tables that a mesh is made in: no vertex on any edge or in any triangle, and three rings for each triangle
pub record Bare (es : List Edge) (ts : List TriangleContents) (rs : List Ring) : Type 0 where
  pub edges : (i : ℕ) → i < length es → OfLength 0 (edge_in es i)
  pub contents : (i : ℕ) → i < length ts → kind_at ts i ≡ kind.None
  pub room : 3 * length ts ≤ length rs
