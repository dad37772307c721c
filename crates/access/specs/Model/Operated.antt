-- A layout after an operation.
use Rattle.std.specs.Prelude.{ℕ, cond, None, Option, ◌==◌}
use Rattle.access.specs.Model.Layouts.{Layout, state}
use Rattle.access.specs.Model.Operations.{Operation, read, write, create, grant, remove, revoke, delete, effect}

-- a created entity is in its actor's compartment
abbrev pub home_after : Layout → Operation → ℕ → Option ℕ
home_after l (read e c) x = l.home x
home_after l (write e c) x = l.home x
home_after l (create e n c1 c2) x = cond (x == n) (l.home e) (l.home x)
home_after l (grant e c1 c2 R c3) x = l.home x
home_after l (remove e c1 c2) x = l.home x
home_after l (revoke e c) x = l.home x
home_after l (delete e) x = cond (x == e) None (l.home x)

-- what is held is what the model says
abbrev pub operated : Layout → Operation → Layout
operated l op = record { home = home_after l op; arrow = l.arrow; holds = (effect (state l) op).holds }
