use Rattle.access.proofs.Masks.{in_some}
use Rattle.access.proofs.right.Right.is_in_some.Goals as goal

pub returns : goal.returns
returns c = rw c.mask.ensures (in_some c.args.self c.args.word c.ranges.word.fits)
