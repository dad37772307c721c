-- A service call that is in order is accepted exactly if it is legal in the model and the store has room.
use Rattle.std.proofs.Common.{◌≡◌, ℕ, ◌↔◌, Ok, arith}
use Rattle.access.specs.Model.Layouts.{state}
use Rattle.access.specs.Model.Operations.{Operation, Legal}
use Rattle.access.specs.History.Calls.{serve, Answer}
use Rattle.access.specs.Rules.Views.{View, layout}
use Rattle.access.specs.Rules.Serving.{legal_checks}
use Rattle.access.specs.Rules.Due.{Due}
use Rattle.access.specs.Rules.Agreement.{RoomFor, InOrder}
use Rattle.access.proofs.Rules.Judging.{AllMet}

pub legal_needs : (v : View) (op : Operation) → AllMet (legal_checks v op) → Legal (state (layout v)) op × RoomFor v op
legal_needs = grind arith

pub accepts_legal : (v : View) (op : Operation) (marks : ℕ) (answer : Answer) → Due v (serve op marks) answer
    → InOrder answer
    → (answer ≡ Ok tt) ↔ (Legal (state (layout v)) op × RoomFor v op)
accepts_legal v op marks answer due order = grind arith
