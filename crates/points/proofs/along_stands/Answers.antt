use Rattle.points.proofs.Listed.{along_stands}
use Rattle.points.proofs.along_stands.Goals as goal

pub returns : goal.returns
returns g c = along_stands g.row.P.Denot g.row.F.Denot
