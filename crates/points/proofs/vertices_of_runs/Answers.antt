use Rattle.points.proofs.Promises.{vertices_of_runs}
use Rattle.points.proofs.vertices_of_runs.Goals as goal

pub returns : goal.returns
returns g c = vertices_of_runs g.row.P.Denot g.row.F.Denot
