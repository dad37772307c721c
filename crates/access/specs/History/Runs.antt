-- What is kept through every run of service.
use Rattle.std.specs.Prelude.{◌≡◌, ℕ, ◌⊎◌, ◌↔◌, List, [], ◌∷◌, ◌++◌, Ok, Err}
use Rattle.refusal.specs.declared.Refusal.{Refusal}
use Rattle.refusal.specs.declared.Refusal.TheVariants.{WrongPhase}
use Rattle.access.specs.Chains.{Chain}
use Rattle.access.specs.Model.States.{Connected, Sane}
use Rattle.access.specs.Model.Layouts.{Layout, Lives, state, Passes}
use Rattle.access.specs.Model.Confinement.{Separate, Separation, Flow, Sound, Local}
use Rattle.access.specs.Model.Operations.{Operation, Legal}
use Rattle.access.specs.History.Calls.{Call, fill, load, accept, ask, serve, Answer, Event}
use Rattle.access.specs.History.Accounts.{account}

abbrev pub after : List Event → Layout
after history = (account history).layout

pub record OneStep : Type 0 where
  -- from a sound account, a legal service call leads to a sound account
  pub legal : (past : List Event) (op : Operation) (marks : ℕ) → Sound (after past) → Legal (state (after past)) op
      → Sound (after (record { call = serve op marks; answer = Ok tt } ∷ past))
  -- and so does a refused one
  pub refused : (past : List Event) (op : Operation) (marks : ℕ) (refusal : Refusal) → Sound (after past)
      → Sound (after (record { call = serve op marks; answer = Err refusal } ∷ past))

-- an answer that a call may get in service: an accepted service call is legal, and filling is over
abbrev pub InService : List Event → Call → Answer → Type 0
InService past (serve op marks) (Ok _) = Legal (state (after past)) op
InService past (serve op marks) (Err refusal) = Unit {0}
InService past (ask q) answer = Unit {0}
InService past (accept marks) answer = answer ≡ Err WrongPhase
InService past (fill f) answer = answer ≡ Err WrongPhase
InService past (load said ending) answer = answer ≡ Err WrongPhase

-- these events, newest first, may follow the past in service
abbrev pub Serves : List Event → List Event → Type 0
Serves past [] = Unit {0}
Serves past (event ∷ later) = InService (later ++ past) event.call event.answer × Serves past later

-- from a sound account on, through every run of service, holders and targets are present, chains of connections stay in one
-- compartment, and information steps only along arrows
abbrev pub WholeRuns : Type 0
WholeRuns =
    (past later : List Event) → Sound (after past) → Serves past later
    → Sane (state (after (later ++ past))) × Separation (after (later ++ past)) × Flow (after (later ++ past))

-- separation and flow are a matter of each capability alone
abbrev pub LocalMeans : Type 0
LocalMeans =
    (history : List Event) → Sane (state (after history))
    → Local (after history) ↔ (Separation (after history) × Flow (after history))

-- chains of connections join no more than single ones do
abbrev pub ChainsAddNothing : Type 0
ChainsAddNothing =
    (history : List Event) → Sane (state (after history)) → Separate (after history) ↔ Separation (after history)

-- where information can pass from the group of one entity to that of another, they share a compartment or an arrow leads from
-- the first one's to the second one's
abbrev pub GroupsFlow : Type 0
GroupsFlow =
    (history : List Event) → Sane (state (after history)) → Separation (after history) → Flow (after history)
    → (x x' y y' A B : ℕ) → Lives (after history) x A → Lives (after history) y B
    → Chain (Connected (state (after history))) x x' → Chain (Connected (state (after history))) y y'
    → Passes (after history) x' y' → (A ≡ B) ⊎ (after history).arrow A B
