use Rattle.std.proofs.Common.{ℕ}
use Rattle.growing.specs.SteppingAll.{ReadyAll}
use Rattle.growing.proofs.InTurn.{SteppedUpTo}
use Rattle.growing.proofs.steps.step_all.Given as goal

abbrev pub invariant-loop-i : goal.invariant-loop-i
invariant-loop-i l =
    (m : ℕ) → ReadyAll l.initial.rings m l.count l.initial.contents
    → SteppedUpTo l.initial.rings m l.count l.initial.contents l.next l.i l.rings l.contents l.free
