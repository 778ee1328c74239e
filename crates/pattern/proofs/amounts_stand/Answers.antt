use Rattle.pattern.proofs.Amounts.{amounts}
use Rattle.pattern.proofs.amounts_stand.Goals as goal

pub returns : goal.returns
returns c = amounts
