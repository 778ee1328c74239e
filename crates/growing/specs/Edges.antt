-- The vertices of an edge.
use Rattle.std.specs.Prelude.{◌≡◌, ℕ, List, [], length, slice_index_or}
use Rattle.rings.specs.Rows.{no_vertices, row_vertices}
use Rattle.growing.specs.declared.edge.Edge.{Edge}

abbrev pub edge_vertices : Edge → List ℕ
edge_vertices e = row_vertices e.points

-- an edge of n vertices
abbrev pub OfLength : ℕ → Edge → Type 0
OfLength n e = length (edge_vertices e) ≡ n

-- what is read beyond the edges
abbrev pub no_edge : Edge
no_edge = record { points = record { places = []; len = 0 } }

-- an edge that has no vertex yet
abbrev pub empty_edge : Edge
empty_edge = record { points = no_vertices 12 }

-- the edge that a number names, and how many vertices it has
abbrev pub edge_in : List Edge → ℕ → Edge
edge_in es i = slice_index_or es i no_edge

abbrev pub len_at : List Edge → ℕ → ℕ
len_at es i = length (edge_vertices (edge_in es i))
