-- The three sides of a ring of the table: one list, each side a third of it.
use Rattle.std.specs.Prelude.{ℕ, ◌*◌, ◌/◌, List, length, take, drop}
use Rattle.rings.specs.Rows.{row_vertices}
use Rattle.rings.specs.declared.contents.Ring.{Ring}
use Rattle.rings.specs.declared.contents.Side.{Side}
use Rattle.rings.specs.declared.contents.Side.TheVariants.{Ab, Bc, Ca}

-- ab, bc, ca are sides 0, 1, 2
abbrev pub side_number : Side → ℕ
side_number Ab = 0
side_number Bc = 1
side_number Ca = 2

-- the vertices on the sides, those of ab first
abbrev pub on_sides : Ring → List ℕ
on_sides g = row_vertices g.sides

-- how many vertices a side has
abbrev pub side_len : Ring → ℕ
side_len g = length (on_sides g) / 3

abbrev pub side_of : Ring → Side → List ℕ
side_of g s = take (side_len g) (drop (side_number s * side_len g) (on_sides g))
