use Rattle.questions.specs.Answer.{answer}
use Rattle.questions.proofs.Verdicts.{answer_verdict, only_verdict}
use Rattle.questions.proofs.laws.one_verdict_stands.Goals as goal

pub returns : goal.returns
returns c P E ts = record { answer = answer P E ts; stands = answer_verdict P E ts; only = only_verdict P E ts }
