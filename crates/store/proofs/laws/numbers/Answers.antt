use Rattle.store.proofs.ForCallers.{one_more, none_more, one_fewer, none_fewer, same_number, at_most_all}
use Rattle.store.proofs.laws.numbers.Goals as goal

pub returns : goal.returns
returns c = record {
  one_more = one_more;
  none_more = none_more;
  one_fewer = one_fewer;
  none_fewer = none_fewer;
  same_number = same_number;
  at_most_all = at_most_all;
}
