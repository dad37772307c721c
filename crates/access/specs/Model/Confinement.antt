-- What an accepted table keeps: separation and flow; and the same, said of each capability alone.
use Rattle.std.specs.Prelude.{◌≡◌, ℕ, ◌⊎◌, ◌≢◌}
use Rattle.access.specs.declared.right.Right.TheVariants.{Read, Write, Grant, Store}
use Rattle.access.specs.Rights.{In}
use Rattle.access.specs.Chains.{Chain}
use Rattle.access.specs.Model.States.{Connected, Sane}
use Rattle.access.specs.Model.Layouts.{Layout, Lives, state, Steps}

-- connected entities share a compartment
abbrev pub Separate : Layout → Type 0
Separate l = (x y A B : ℕ) → Lives l x A → Lives l y B → Connected (state l) x y → A ≡ B

-- entities joined by a chain of connections share a compartment
abbrev pub Separation : Layout → Type 0
Separation l = (x y A B : ℕ) → Lives l x A → Lives l y B → Chain (Connected (state l)) x y → A ≡ B

-- information steps only along arrows
abbrev pub Flow : Layout → Type 0
Flow l = (A B : ℕ) → Steps l A B → l.arrow A B

pub record Sound (l : Layout) : Type 0 where
  pub sane : Sane (state l)
  pub separate : Separate l
  pub flow : Flow l

-- a capability with the rights r may lead from a holder in A to a target in B
pub record Fitting (arrow : ℕ → ℕ → Type 0) (A B r : ℕ) : Type 0 where
  pub tied : In Grant r ⊎ In Store r → A ≡ B
  pub writes : In Write r → (A ≢ B) → arrow A B
  pub reads : In Read r → (A ≢ B) → arrow B A

-- every capability fits, looked at alone
abbrev pub Local : Layout → Type 0
Local l = (h t r A B : ℕ) → l.holds h t r → Lives l h A → Lives l t B → Fitting l.arrow A B r
