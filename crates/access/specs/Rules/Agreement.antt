-- The table's rules and the access model say the same.
use Rattle.std.specs.Prelude.{◌≡◌, ℕ, ◌↔◌, List, ◌∷◌, Ok, Err}
use Rattle.refusal.specs.declared.Refusal.TheVariants as refuse
use Rattle.access.specs.Rights.{all_rights, common}
use Rattle.access.specs.Model.States.{State, Sane}
use Rattle.access.specs.Model.Layouts.{Present, state}
use Rattle.access.specs.Model.Operations.{Operation, read, write, create, grant, remove, revoke, delete, Legal, effect}
use Rattle.access.specs.History.Calls.{serve, Answer, Event}
use Rattle.access.specs.History.Standing.{PutsOp}
use Rattle.access.specs.History.Runs.{after}
use Rattle.access.specs.Rules.Views.{View, layout, Room}
use Rattle.access.specs.Rules.Due.{Due}
use Rattle.access.specs.Rules.Changes.{Served}

-- two states with the same entities and triples
pub record Alike (s u : State) : Type 0 where
  pub present : (e : ℕ) → s.present e ↔ u.present e
  pub holds : (h t r : ℕ) → s.holds h t r ↔ u.holds h t r

-- the store can take what the operation adds
abbrev pub RoomFor : View → Operation → Type 0
RoomFor v (read e c) = Unit {0}
RoomFor v (write e c) = Unit {0}
RoomFor v (create e n c1 c2) = Room v c2.target n all_rights
RoomFor v (grant e c1 c2 R c3) = Room v c3.target c2.target (common c2.rights R)
RoomFor v (remove e c1 c2) = Unit {0}
RoomFor v (revoke e c) = Unit {0}
RoomFor v (delete e) = Unit {0}

-- phase, numbers and buffers, of which the model knows nothing, are in order
pub record InOrder (answer : Answer) : Type 0 where
  pub phase : answer ≡ Err refuse.WrongPhase → ⊥
  pub range : answer ≡ Err refuse.OutOfRange → ⊥
  pub buffer : answer ≡ Err refuse.ShortBuffer → ⊥

-- then a service call is accepted exactly if it is legal in the model and the store has room
abbrev pub AcceptsLegal : Type 0
AcceptsLegal =
    (v : View) (op : Operation) (marks : ℕ) (answer : Answer) → Due v (serve op marks) answer → InOrder answer
    → (answer ≡ Ok tt) ↔ (Legal (state (layout v)) op × RoomFor v op)

-- and the view after it is in the state that the model says
abbrev pub ServesModel : Type 0
ServesModel =
    (v : View) (op : Operation) (w : View) → Sane (state (layout v)) → Legal (state (layout v)) op → Served v op w
    → Alike (state (layout w)) (effect (state (layout v)) op)

-- so is the account
abbrev pub AccountsModel : Type 0
AccountsModel =
    (past : List Event) (op : Operation) (marks : ℕ) → Legal (state (after past)) op
    → Alike (state (after (record { call = serve op marks; answer = Ok tt } ∷ past))) (effect (state (after past)) op)

-- whoever gains a capability is present already: nobody has to be made for it
abbrev pub GainersPresent : Type 0
GainersPresent =
    (v : View) (op : Operation) (h t r : ℕ) → Sane (state (layout v)) → Legal (state (layout v)) op → PutsOp op h t r
    → Present (layout v) h
