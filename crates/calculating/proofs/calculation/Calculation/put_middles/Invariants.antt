use Rattle.std.proofs.Common.{take}
use Rattle.calculating.specs.Calculating.{Makes, middle_writes}
use Rattle.calculating.proofs.calculation.Calculation.put_middles.Given as goal

abbrev pub invariant-loop-x : goal.invariant-loop-x
invariant-loop-x g l = Makes g.S.BaseShape.between g.S.BaseShape.half (middle_writes (take l.x-index l.middles)) l.initial.self l.self
