use Rattle.mesh.proofs.Readings.{readings_stand}
use Rattle.mesh.proofs.readings_stand.Goals as goal

pub returns : goal.returns
returns c = readings_stand
