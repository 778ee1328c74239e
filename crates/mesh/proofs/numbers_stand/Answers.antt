use Rattle.mesh.proofs.Below.{numbers_below}
use Rattle.mesh.proofs.numbers_stand.Goals as goal

pub returns : goal.returns
returns c = numbers_below
