use Rattle.points.proofs.Recorded.{agree}
use Rattle.points.proofs.recorded_stand.Goals as goal

pub returns : goal.returns
returns c = agree
