-- What a revoke takes and what it leaves.
use Rattle.std.specs.Prelude.{ℕ, ◌≢◌}
use Rattle.access.specs.declared.capability.Capability.{Capability}
use Rattle.access.specs.declared.right.Right.{Right}
use Rattle.access.specs.Rights.{In, common}
use Rattle.access.specs.Model.States.{Reaches, MayUse}
use Rattle.access.specs.Model.Layouts.{state}
use Rattle.access.specs.Model.Operations.{revoke, effect}
use Rattle.access.specs.Rules.Views.{View, layout}

pub record Revoking : Type 0 where
  -- no copy of c that a grant can have made stays out of the actor's reach
  pub takes_copies : (v : View) (e h R : ℕ) (c : Capability) → (Reaches (state (layout v)) e h → ⊥)
      → (effect (state (layout v)) (revoke e c)).holds h c.target (common c.rights R) → ⊥
  -- a capability with a right that c lacks stays
  pub leaves_wider : (v : View) (e h t r : ℕ) (c : Capability) (right : Right) → In right r → (In right c.rights → ⊥)
      → (state (layout v)).holds h t r → (effect (state (layout v)) (revoke e c)).holds h t r
  -- and one over another entity
  pub leaves_others : (v : View) (e h t r : ℕ) (c : Capability) → (t ≢ c.target)
      → (state (layout v)).holds h t r → (effect (state (layout v)) (revoke e c)).holds h t r
  -- the actor may use all that it could use before
  pub leaves_actor : (v : View) (e : ℕ) (c other : Capability) → MayUse (state (layout v)) e other
      → MayUse (effect (state (layout v)) (revoke e c)) e other
