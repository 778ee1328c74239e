use Rattle.points.proofs.Promises.{points_of_runs}
use Rattle.points.proofs.points_of_runs.Goals as goal

pub returns : goal.returns
returns g c = points_of_runs g.row.P.Denot g.row.F.Denot
