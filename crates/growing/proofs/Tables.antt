-- What tables that stand hold: every edge's vertices are as many as the count, and every triangle's contents are of it.
use Rattle.std.proofs.Common.{◌≡◌, ℕ, ◌<◌, List, [], map, length}
use Rattle.std.proofs.lemmas.List.{get_or-map}
use Rattle.shape.specs.Lists.{Each}
use Rattle.pattern.specs.Step.{OfCount}
use Rattle.mesh.specs.Numbering.{edge_of}
use Rattle.rings.specs.declared.contents.Ring.{Ring}
use Rattle.rings.specs.declared.contents.TriangleContents.{TriangleContents}
use Rattle.rings.specs.declared.contents.TriangleContents.TheVariants as kind
use Rattle.rings.specs.Held.{held}
use Rattle.growing.specs.declared.edge.Edge.{Edge}
use Rattle.growing.specs.Edges.{edge_in, edge_vertices, no_edge}
use Rattle.growing.specs.SteppingAll.{kind_at, all_held}
use Rattle.growing.specs.Standing.{numbering, Stands}
use Rattle.growing.proofs.ByPosition.{each_is}
use Rattle.growing.proofs.Counts.{held_of_count}

module _ (n : ℕ) (es : List Edge) (ts : List TriangleContents) (rs : List Ring) (s : Stands n es ts rs) where
  pub contents_of_count : Each (OfCount n) (all_held rs ts)
  contents_of_count = each_is (held rs 3) kind.None (OfCount n) ts (λ i p. held_of_count rs 3 n (kind_at ts i) (s.contents i p).equal (s.contents i p).fits)

  pub edge_long : (i : ℕ) → i < length es → length (edge_vertices (edge_in es i)) ≡ n
  edge_long = s.edges

  pub edges_long : Each (λ l. length l ≡ n) (map edge_vertices es)
  edges_long = each_is edge_vertices no_edge (λ l. length l ≡ n) es s.edges

-- an edge of the numbering is the edge of the table
pub edge_of_lem : (n total i : ℕ) (es : List Edge) (ts : List TriangleContents) (rs : List Ring) → i < length es → edge_of (numbering n total es ts rs) i ≡ edge_vertices (edge_in es i)
edge_of_lem n total i es ts rs p = get_or-map edge_vertices es i no_edge [] p
