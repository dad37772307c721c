use Rattle.access.proofs.WordBits.{bit_cleared}
use Rattle.access.proofs.word.without.Goals as goal

pub returns-clause-clear : goal.returns-clause-clear
returns-clause-clear c =
    λ below r. rw (c.only.ensures.below below) (bit_cleared c.args.word c.args.rights r c.ranges.word.fits below)
