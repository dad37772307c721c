-- A history tracks a table if its account tells what the table is, and in service the account is separate and flows along arrows.
use Rattle.std.specs.Prelude.{◌≡◌, ℕ, true, ◌↔◌, List, [], ◌∷◌}
use Rattle.access.specs.Model.States.{Sane}
use Rattle.access.specs.Model.Layouts.{state}
use Rattle.access.specs.Model.Confinement.{Separation, Flow}
use Rattle.access.specs.History.Calls.{Call, Answer, Event}
use Rattle.access.specs.History.Accounts.{account}
use Rattle.access.specs.History.Runs.{after, InService}
use Rattle.access.specs.Rules.Views.{service, View, names as names_of, fresh}
use Rattle.access.specs.Rules.Changes.{Does}

pub record Tracks (past : List Event) (v : View) : Type 0 where
  pub names : names_of v ≡ (account past).names
  pub home : (e : ℕ) → v.home e ≡ (after past).home e
  pub arrow : (A B : ℕ) → (v.arrow A B ≡ true) ↔ (after past).arrow A B
  pub holds : (h t r : ℕ) → (v.holds h t r ≡ true) ↔ (after past).holds h t r
  pub sane : Sane (state (after past))
  pub served : v.phase ≡ service → Separation (after past) × Flow (after past)

-- a table begins with the empty history, and whatever call is made, the history with this event tracks what it becomes
pub record Tracking : Type 0 where
  pub begins : (size limit : ℕ) → Tracks [] (fresh size limit)
  pub goes_on : (past : List Event) (v : View) (call : Call) (answer : Answer) (w : View) → Tracks past v
      → Does v call answer w → Tracks (record { call = call; answer = answer } ∷ past) w
  -- in service, what is answered is what may be answered there: an accepted service call is legal by the account
  pub in_service : (past : List Event) (v : View) (call : Call) (answer : Answer) (w : View) → Tracks past v
      → v.phase ≡ service → Does v call answer w → InService past call answer
