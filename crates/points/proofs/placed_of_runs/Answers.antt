use Rattle.points.proofs.Promises.{placed_of_runs}
use Rattle.points.proofs.placed_of_runs.Goals as goal

pub returns : goal.returns
returns g c = placed_of_runs g.row.P.Denot g.row.F.Denot
