-- Protection states: who is there, who holds what, and what follows from that.
use Rattle.std.specs.Prelude.{ℕ, ◌⊎◌}
use Rattle.access.specs.declared.capability.Capability.{Capability}
use Rattle.access.specs.declared.right.Right.TheVariants.{Grant, Store}
use Rattle.access.specs.Rights.{In}
use Rattle.access.specs.Chains.{Chain}

-- a capability, by its target and its rights
abbrev pub cap : ℕ → ℕ → Capability
cap target rights = record { target = target; rights = rights }

-- `holds h t r`: entity h holds the capability (t, r)
pub record State : Type 1 where
  pub present : ℕ → Type 0
  pub holds : ℕ → ℕ → ℕ → Type 0

-- one of x's capabilities is over y and has Store
abbrev pub Link : State → ℕ → ℕ → Type 0
Link s x y = (r : ℕ) × s.holds x y r × In Store r

abbrev pub Reaches : State → ℕ → ℕ → Type 0
Reaches s = Chain (Link s)

-- x, or something that x reaches, holds c, with exactly these rights
abbrev pub MayUse : State → ℕ → Capability → Type 0
MayUse s x c = (z : ℕ) × Reaches s x z × s.holds z c.target c.rights

-- x and y reach a common entity
abbrev pub Shares : State → ℕ → ℕ → Type 0
Shares s x y = (z : ℕ) × Reaches s x z × Reaches s y z

-- x can pass capabilities on to y
abbrev pub Leaks : State → ℕ → ℕ → Type 0
Leaks s x y = ((r : ℕ) × MayUse s x (cap y r) × In Grant r) ⊎ Shares s x y

abbrev pub Connected : State → ℕ → ℕ → Type 0
Connected s x y = Leaks s x y ⊎ Leaks s y x

-- whoever holds a capability is present, and so is its target
pub record Sane (s : State) : Type 0 where
  pub holder : (h t r : ℕ) → s.holds h t r → s.present h
  pub target : (h t r : ℕ) → s.holds h t r → s.present t
