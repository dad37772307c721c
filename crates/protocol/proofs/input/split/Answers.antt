use Rattle.protocol.proofs.Enough.{enough}
use Rattle.protocol.proofs.input.split.Goals as goal

pub returns-in_err-input-clause-enough : goal.returns-in_err-input-clause-enough
returns-in_err-input-clause-enough c = enough

pub returns-then-in_range-clause-enough : goal.returns-then-in_range-clause-enough
returns-then-in_range-clause-enough c = enough

pub returns-else-in_range-clause-enough : goal.returns-else-in_range-clause-enough
returns-else-in_range-clause-enough c = enough
