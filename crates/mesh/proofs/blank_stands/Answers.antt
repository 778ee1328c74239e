use Rattle.mesh.proofs.Blank.{blank_stands}
use Rattle.mesh.proofs.blank_stands.Goals as goal

pub returns : goal.returns
returns c = blank_stands
