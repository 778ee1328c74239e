use Rattle.std.proofs.Common.{◌+◌, ◌-◌, ◌*◌, length}
use Rattle.growing.proofs.step.+step_step_ring.Given as goal

abbrev pub decreases-step : goal.decreases-step
decreases-step l = 2 * (length l.rings.now - l.at) + 1

abbrev pub decreases-step_ring : goal.decreases-step_ring
decreases-step_ring l = 2 * (length l.rings.now - l.i)
