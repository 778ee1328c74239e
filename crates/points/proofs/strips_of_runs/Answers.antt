use Rattle.points.proofs.Promises.{strips_of_runs}
use Rattle.points.proofs.strips_of_runs.Goals as goal

pub returns : goal.returns
returns g c = strips_of_runs g.row.P.Denot g.row.F.Denot
