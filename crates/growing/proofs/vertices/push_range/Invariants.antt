use Rattle.std.proofs.Common.{◌≡◌, ◌-◌, ◌++◌}
use Rattle.pattern.specs.Step.{range}
use Rattle.rings.specs.Rows.{row_vertices}
use Rattle.growing.proofs.vertices.push_range.Given as goal

abbrev pub invariant-loop-vertex : goal.invariant-loop-vertex
invariant-loop-vertex g l = row_vertices l.list ≡ row_vertices l.initial.list ++ range l.next (l.vertex - l.next)
