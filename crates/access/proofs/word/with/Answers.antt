use Rattle.std.specs.Int.Bits.{or_zero_r}
use Rattle.access.proofs.WordBits.{bit_set}
use Rattle.access.proofs.word.with.Goals as goal

pub returns : goal.returns
returns c = record {
  stands = λ below r. rw (c.only.ensures.below below) (bit_set c.args.word c.args.rights r);
  past = λ above. rw (c.only.ensures.past above) (or_zero_r c.args.word);
}
