use Rattle.mesh.proofs.Sinks.{sinks_filled}
use Rattle.mesh.proofs.sinks_stand.Goals as goal

pub returns : goal.returns
returns c = sinks_filled
