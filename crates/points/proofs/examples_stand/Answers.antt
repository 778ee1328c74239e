use Rattle.points.proofs.Examples.{examples}
use Rattle.points.proofs.examples_stand.Goals as goal

pub returns : goal.returns
returns c = examples
