use Rattle.access.proofs.RightsSets.{common_both, set_sum, within_common}
use Rattle.access.proofs.laws.rights.Goals as goal

pub returns : goal.returns
returns c = record { sets_are_sums = set_sum; common_is_both = common_both; within_is_common = within_common }
