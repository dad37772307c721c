-- A sound account stays sound through every run of service.
use Rattle.std.proofs.Common.{List, [], ◌∷◌, ◌++◌, Ok, Err, arith}
use Rattle.refusal.specs.declared.Refusal.TheVariants.{WrongPhase}
use Rattle.access.specs.Model.States.{Sane}
use Rattle.access.specs.Model.Layouts.{Layout, state}
use Rattle.access.specs.Model.Confinement.{Separation, Flow, Sound}
use Rattle.access.specs.History.Calls.{Call, fill, load, accept, ask, serve, Answer, Event}
use Rattle.access.specs.History.Accounts.{fed, account}
use Rattle.access.specs.History.Runs.{after, InService, Serves}
use Rattle.access.proofs.Facts.{one_refusal, ok_err}
use Rattle.access.proofs.Model.Local.{separate, separation, flow, to_local}
use Rattle.access.proofs.Model.Keeping.{Good, good_after}

pub to_good : (l : Layout) → Sound l → Good l
to_good l sound = (sound.sane, to_local l sound.sane sound.separate sound.flow)

pub from_good : (l : Layout) → Good l → Sound l
from_good = grind (arith, flow, separate)

pub one_step : (past : List Event) (call : Call) (answer : Answer) → Sound (after past) → InService past call answer
    → Sound (fed (account past) call answer).layout
one_step past (fill f) (Ok u) sound e = absurd (ok_err u WrongPhase e)
one_step past (fill f) (Err refusal) sound e = sound
one_step past (load said ending) (Ok u) sound e = absurd (ok_err u WrongPhase e)
one_step past (load said ending) (Err refusal) sound e = grind (arith, one_refusal)
one_step past (accept marks) answer sound e = sound
one_step past (ask q) answer sound e = sound
one_step past (serve op marks) (Ok _) sound legal =
    from_good _ (good_after (after past) (to_good (after past) sound) op legal)
one_step past (serve op marks) (Err refusal) sound e = sound

stays_sound : (past later : List Event) → Sound (after past) → Serves past later → Sound (after (later ++ past))
stays_sound past [] sound serves = sound
stays_sound past (event ∷ later) sound (now, before) =
    one_step (later ++ past) event.call event.answer (stays_sound past later sound before) now

pub whole_runs : (past later : List Event) → Sound (after past) → Serves past later
    → Sane (state (after (later ++ past))) × Separation (after (later ++ past)) × Flow (after (later ++ past))
whole_runs past later sound serves =
    let end = stays_sound past later sound serves in
    (end.sane, separation (after (later ++ past)) end.sane end.separate, end.flow)
