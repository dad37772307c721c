-- What calls need of their arguments.
use Rattle.std.specs.Prelude.{ℕ, ◌<◌, ◌≤◌}
use Rattle.access.specs.declared.capability.Capability.{Capability}
use Rattle.access.specs.Rights.{all_rights}
use Rattle.access.specs.Model.States.{MayUse}
use Rattle.access.specs.Model.Layouts.{Present, state}
use Rattle.access.specs.Rules.Views.{View, layout}

abbrev pub Here : View → ℕ → Type 0
Here v e = Present (layout v) e

abbrev pub Uses : View → ℕ → Capability → Type 0
Uses v e c = MayUse (state (layout v)) e c

-- numbers in range
abbrev pub EntityNumber : View → ℕ → Type 0
EntityNumber v e = e < v.size

abbrev pub RightsSet : ℕ → Type 0
RightsSet r = r ≤ all_rights

abbrev pub CapabilityNumbers : View → Capability → Type 0
CapabilityNumbers v c = EntityNumber v c.target × RightsSet c.rights

abbrev pub LongEnough : ℕ → Type 0
LongEnough buffer = 128 ≤ buffer
