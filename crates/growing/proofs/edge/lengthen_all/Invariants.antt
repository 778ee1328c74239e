use Rattle.growing.proofs.Lengthening.{LongerUpTo}
use Rattle.growing.proofs.edge.lengthen_all.Given as goal

abbrev pub invariant-loop-e : goal.invariant-loop-e
invariant-loop-e l = LongerUpTo l.initial.edges l.amount l.next l.e-index l.edges l.free
