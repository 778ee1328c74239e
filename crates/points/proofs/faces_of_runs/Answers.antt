use Rattle.points.proofs.Promises.{faces_of_runs}
use Rattle.points.proofs.faces_of_runs.Goals as goal

pub returns : goal.returns
returns g c = faces_of_runs g.row.P.Denot g.row.F.Denot
