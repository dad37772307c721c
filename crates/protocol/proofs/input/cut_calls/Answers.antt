use Rattle.std.proofs.lemmas.List.{take_min}
use Rattle.protocol.specs.Inputs.{cut_calls}
use Rattle.protocol.proofs.input.cut_calls.Goals as goal

pub returns : goal.returns
unfolding cut_calls
returns c = rw (c.min.ensures, take_min)
