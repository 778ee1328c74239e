use Rattle.mesh.proofs.OneMaking.{one_making}
use Rattle.mesh.proofs.one_making_stands.Goals as goal

pub returns : goal.returns
returns c = one_making
