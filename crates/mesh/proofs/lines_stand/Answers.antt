use Rattle.mesh.proofs.Amounts.{lines_counted}
use Rattle.mesh.proofs.lines_stand.Goals as goal

pub returns : goal.returns
returns c = lines_counted
