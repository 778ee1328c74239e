use Rattle.points.proofs.Promises.{vec3a_of_runs}
use Rattle.points.proofs.vec3a_of_runs.Goals as goal

pub returns : goal.returns
returns c = vec3a_of_runs
