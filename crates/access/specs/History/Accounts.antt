-- The account: what the calls and their answers alone say of a table.
use Rattle.std.specs.Prelude.{◌≡◌, ℕ, Bool, cond, ◌⊎◌, List, [], ◌∷◌, ◌++◌, Some, None, Ok, Err, Option, ◌==◌, ◌≢◌}
use Rattle.refusal.specs.declared.Refusal.{Refusal}
use Rattle.refusal.specs.declared.Refusal.TheVariants.{WrongPhase}
use Rattle.refusal.specs.Numbers.{number}
use Rattle.sheet.specs.Entries.{Entry}
use Rattle.access.specs.declared.capability.Capability.{Capability}
use Rattle.access.specs.Model.Layouts.{Layout}
use Rattle.access.specs.Model.Operations.{Is}
use Rattle.access.specs.Model.Operated.{operated}
use Rattle.access.specs.History.Calls.{
  Fill,
  declare,
  place_entity,
  place_capability,
  draw_arrow,
  Call,
  fill,
  load,
  accept,
  ask,
  serve,
  Answer,
  Event,
}
use Rattle.access.specs.History.Names.{stands_for}

pub record Account : Type 1 where
  -- of the compartments, in the order of their numbers
  pub names : List (List ℕ)
  pub layout : Layout

abbrev pub blank : Account
blank = record { names = []; layout = record { home = λ _. None; arrow = λ _ _. ⊥; holds = λ _ _ _. ⊥ } }

abbrev pub placed : Layout → ℕ → ℕ → Layout
placed l e A = record { home = λ x. cond (x == e) (Some A) (l.home x); arrow = l.arrow; holds = l.holds }

abbrev pub given : Layout → ℕ → Capability → Layout
given l holder c = record {
  home = l.home;
  arrow = l.arrow;
  holds = λ h t r. Is holder c.target c.rights h t r ⊎ l.holds h t r;
}

-- an arrow that would end where it begins is none
abbrev pub pointed : Layout → ℕ → ℕ → Layout
pointed l A B = record {
  home = l.home;
  arrow = λ C D. ((C ≡ A) × (D ≡ B) × (A ≢ B)) ⊎ l.arrow C D;
  holds = l.holds;
}

-- what an accepted fill call enters
abbrev pub entered : Account → Fill → Account
entered a (declare name) = record { names = a.names ++ name ∷ []; layout = a.layout }
entered a (place_entity e A) = record { names = a.names; layout = placed a.layout e A }
entered a (place_capability h c) = record { names = a.names; layout = given a.layout h c }
entered a (draw_arrow A B) = record { names = a.names; layout = pointed a.layout A B }

abbrev pub entered_if : Account → Option Fill → Account
entered_if a None = a
entered_if a (Some f) = entered a f

-- the records of an accepted load, each as the fill call that it stands for
abbrev pub loaded : Account → List Entry → Account
loaded a [] = a
loaded a (said ∷ more) = loaded (entered_if a (stands_for a.names said)) more

abbrev pub wrong_phase : Refusal → Bool
wrong_phase refusal = number refusal == number WrongPhase

-- a load that is refused in the wrong phase does nothing; one that fails otherwise leaves nothing
abbrev pub failed : Account → Refusal → Account
failed a refusal = cond (wrong_phase refusal) a blank

abbrev pub fed : Account → Call → Answer → Account
fed a (fill f) (Ok _) = entered a f
fed a (fill f) (Err _) = a
fed a (load said ending) (Ok _) = loaded blank said
fed a (load said ending) (Err refusal) = failed a refusal
fed a (accept marks) _ = a
fed a (ask q) _ = a
fed a (serve op marks) (Ok _) = record { names = a.names; layout = operated a.layout op }
fed a (serve op marks) (Err _) = a

abbrev pub account : List Event → Account
account [] = blank
account (event ∷ past) = fed (account past) event.call event.answer
