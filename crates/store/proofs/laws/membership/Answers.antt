use Rattle.store.proofs.ForCallers.{added_says, removed_says, dropped_says}
use Rattle.store.proofs.laws.membership.Goals as goal

pub returns : goal.returns
returns c = record { added_is = added_says; removed_is = removed_says; dropped_is = dropped_says }
