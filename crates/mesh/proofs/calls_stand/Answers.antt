use Rattle.mesh.proofs.Calls.{accepted_fits}
use Rattle.mesh.proofs.calls_stand.Goals as goal

pub returns : goal.returns
returns c = accepted_fits
