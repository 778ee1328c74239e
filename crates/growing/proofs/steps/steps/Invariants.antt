use Rattle.std.proofs.Common.{ℕ}
use Rattle.growing.specs.Stepping.{Ready, Moves}
use Rattle.growing.proofs.steps.steps.Given as goal

abbrev pub invariant-loop : goal.invariant-loop
invariant-loop l =
    (d m : ℕ) → Ready l.initial.rings l.at d m l.count l.initial.contents l.next
    → Moves l.initial.rings l.at d m l.counter l.initial.contents l.next l.rings l.contents l.free
