-- The counts that a mesh tells.
use Rattle.std.specs.Prelude.{ℕ, ◌+◌, ◌*◌, ◌/◌, length}
use Rattle.mesh.specs.Numbering.{Numbering}

abbrev pub subdivisions : Numbering → ℕ
subdivisions N = N.n

abbrev pub shared_per_triangle : Numbering → ℕ
shared_per_triangle N = (N.n + 1) * (N.n + 2) / 2

-- those of the P points and of the edges
abbrev pub shared_vertices : ℕ → Numbering → ℕ
shared_vertices P N = N.n * length N.edges + P
