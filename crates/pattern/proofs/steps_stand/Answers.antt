use Rattle.pattern.proofs.Grow.{steps_sound}
use Rattle.pattern.proofs.steps_stand.Goals as goal

pub returns : goal.returns
returns c = steps_sound
