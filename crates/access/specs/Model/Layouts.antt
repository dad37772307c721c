-- Layouts: protection states divided into compartments, with arrows between these.
use Rattle.std.specs.Prelude.{◌≡◌, ℕ, ◌⊎◌, Some, Option, ◌≢◌}
use Rattle.access.specs.declared.right.Right.TheVariants.{Read, Write}
use Rattle.access.specs.Rights.{In}
use Rattle.access.specs.Model.States.{State, cap, MayUse}

pub record Layout : Type 1 where
  -- the compartment that an entity is in; none if it is absent
  pub home : ℕ → Option ℕ
  pub arrow : ℕ → ℕ → Type 0
  pub holds : ℕ → ℕ → ℕ → Type 0

abbrev pub Lives : Layout → ℕ → ℕ → Type 0
Lives l e A = l.home e ≡ Some A

abbrev pub Present : Layout → ℕ → Type 0
Present l e = (A : ℕ) × Lives l e A

abbrev pub state : Layout → State
state l = record { present = Present l; holds = l.holds }

-- information can pass from x to y: x may write to y, or y may read from x
abbrev pub Passes : Layout → ℕ → ℕ → Type 0
Passes l x y =
    ((r : ℕ) × MayUse (state l) x (cap y r) × In Write r)
    ⊎ ((r : ℕ) × MayUse (state l) y (cap x r) × In Read r)

-- information steps from compartment A to another, B
abbrev pub Steps : Layout → ℕ → ℕ → Type 0
Steps l A B = (A ≢ B) × (x : ℕ) × (y : ℕ) × Lives l x A × Lives l y B × Passes l x y
