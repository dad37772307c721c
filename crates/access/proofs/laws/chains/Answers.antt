use Rattle.std.proofs.Common.{◌≡◌, true}
use Rattle.access.proofs.Chaining.{joined, first, widened, turned, kept}
use Rattle.access.proofs.laws.chains.Goals as goal

pub returns : goal.returns
returns c = record {
  transitive = λ g x y z. joined;
  step_first = λ g x y z. first;
  monotone = λ g more wider x y. widened wider;
  reversible = λ g both x y. turned both;
  closed = λ g inside stays x y. kept (λ z. inside z ≡ true) stays;
}
