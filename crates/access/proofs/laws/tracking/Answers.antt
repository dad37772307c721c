use Rattle.access.proofs.Rules.Tracked.{begins, goes_on, in_service}
use Rattle.access.proofs.laws.tracking.Goals as goal

pub returns : goal.returns
returns c = record { begins = begins; goes_on = goes_on; in_service = in_service }
