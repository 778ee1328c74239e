-- The vertices of a row.
use Rattle.std.specs.Prelude.{ℕ, ◌+◌, List, replicate, take, slice_set}
use Rattle.rings.specs.declared.row.Row.{Row}

-- those in its first places; the places behind them hold what they may
abbrev pub row_vertices : {places : ℕ} → Row places → List ℕ
row_vertices r = take r.len r.places

-- a row of so many places with no vertex
abbrev pub no_vertices : (places : ℕ) → Row places
no_vertices n = record { places = replicate n 0; len = 0 }

-- a row with x in the place behind its vertices
abbrev pub with_vertex : {places : ℕ} → Row places → ℕ → Row places
with_vertex r x = record { places = slice_set r.places r.len x; len = r.len + 1 }
