use Rattle.points.proofs.Filling.{filling_stands}
use Rattle.points.proofs.filling_stands.Goals as goal

pub returns : goal.returns
returns g c = filling_stands g.row.P.Denot g.row.D.Denot g.row.S.Denot
