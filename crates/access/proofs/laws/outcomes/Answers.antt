use Rattle.access.proofs.Rules.Outcomes.{one_outcome, one_run}
use Rattle.access.proofs.Rules.Told.{tells_truly}
use Rattle.access.proofs.laws.outcomes.Goals as goal

pub returns : goal.returns
returns c = record { one_outcome = one_outcome; one_run = one_run; tells_truly = tells_truly }
