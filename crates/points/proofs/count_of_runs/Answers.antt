use Rattle.points.proofs.Promises.{count_of_runs}
use Rattle.points.proofs.count_of_runs.Goals as goal

pub returns : goal.returns
returns g c = count_of_runs g.row.P.Denot g.row.F.Denot
