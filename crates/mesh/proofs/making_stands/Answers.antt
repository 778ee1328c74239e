use Rattle.mesh.proofs.Making.{accepted_made}
use Rattle.mesh.proofs.making_stands.Goals as goal

pub returns : goal.returns
returns c = accepted_made
