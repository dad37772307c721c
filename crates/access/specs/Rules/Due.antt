-- The answer that is due to each call.
use Rattle.std.specs.Prelude.{◌≡◌, List, ◌∷◌}
use Rattle.refusal.specs.declared.Refusal.TheVariants as refuse
use Rattle.access.specs.History.Calls.{Call, fill, load, accept, ask, serve, Answer}
use Rattle.access.specs.Rules.Views.{filling, View, emptied}
use Rattle.access.specs.Rules.Checks.{Check, ◌otherwise◌, Answered}
use Rattle.access.specs.Rules.Filling.{fill_checks, load_checks, accept_checks}
use Rattle.access.specs.Rules.Questions.{question_checks}
use Rattle.access.specs.Rules.Serving.{service_checks}

-- the checks of a call, the phase first
abbrev pub checks : View → Call → List Check
checks v (fill f) = (v.phase ≡ filling otherwise refuse.WrongPhase) ∷ fill_checks v f
checks v (load said ending) = (v.phase ≡ filling otherwise refuse.WrongPhase) ∷ load_checks (emptied v) 0 said ending
checks v (accept marks) = (v.phase ≡ filling otherwise refuse.WrongPhase) ∷ accept_checks v marks
checks v (ask q) = question_checks v q
checks v (serve op marks) = service_checks v marks op

-- the answer is the one that is due
abbrev pub Due : View → Call → Answer → Type 0
Due v call answer = Answered (checks v call) answer
