use Rattle.access.proofs.Worked.Refusals.{examples}
use Rattle.access.proofs.laws.refusal_examples.Goals as goal

pub returns : goal.returns
returns c = examples
