use Rattle.std.proofs.Common.{◌≡◌, take}
use Rattle.questions.proofs.check.triangles_of.Given as goal

abbrev pub invariant-loop-i : goal.invariant-loop-i
invariant-loop-i g l = l.list.items ≡ take l.i (g.S.BaseShape.triangles l.base)
