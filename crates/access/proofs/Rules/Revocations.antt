-- What a revoke takes and what it leaves.
use Rattle.std.proofs.Common.{ℕ, arith}
use Rattle.access.specs.declared.capability.Capability.{Capability}
use Rattle.access.specs.Chains.{here, step}
use Rattle.access.specs.Model.States.{State, Reaches}
use Rattle.access.specs.Model.Operations.{revoke, effect}
use Rattle.access.specs.Rules.Revoking.{Revoking}
use Rattle.access.proofs.RightsSets.{common_within}

-- the chains by which the actor reaches others stay whole
still_reaches : (s : State) (e z : ℕ) (c : Capability) → Reaches s e z → Reaches (effect s (revoke e c)) e z
still_reaches s e z c here = here
still_reaches s e z c (step {y = y} chain (r, held, storing)) =
    step (still_reaches s e y c chain) (r, (held, λ (_, _, out). out chain), storing)

pub revoking : Revoking
revoking = grind (arith, common_within, still_reaches)
