use Rattle.mesh.proofs.Amounts.{faces_counted}
use Rattle.mesh.proofs.faces_stand.Goals as goal

pub returns : goal.returns
returns c = faces_counted
