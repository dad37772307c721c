use Rattle.std.proofs.Common.{rules}
use Rattle.access.proofs.Rules.Counting.{members_none}
use Rattle.roll.proofs.Roll.unused.Goals as goal

pub invariant_of-result : goal.invariant_of-result
invariant_of-result c = search (rules, members_none)
