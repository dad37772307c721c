-- Whatever call is made, the history with this event tracks what the table becomes.
use Rattle.std.proofs.Common.{◌≡◌, ℕ, Bool, true, false, cond, List, [], ◌∷◌, map, None, Ok, Err, sym, refl, ap, ◌∙◌, arith, rules}
use Rattle.refusal.specs.declared.Refusal.TheVariants.{WrongPhase}
use Rattle.access.specs.Model.States.{Sane}
use Rattle.access.specs.Model.Layouts.{state}
use Rattle.access.specs.Model.Operations.{Operation, Legal}
use Rattle.access.specs.Model.Operated.{home_after, operated}
use Rattle.access.specs.History.Calls.{Call, fill, load, accept, ask, serve, Answer, Event}
use Rattle.access.specs.History.Accounts.{Account, blank, wrong_phase, fed, account}
use Rattle.access.specs.History.Runs.{after, InService}
use Rattle.access.specs.Rules.Views.{filling, service, View, layout, names as names_of, fresh, emptied, ◌≗◌}
use Rattle.access.specs.Rules.Checks.{Check, ◌otherwise◌, Answered}
use Rattle.access.specs.Rules.Filled.{filled, loaded}
use Rattle.access.specs.Rules.Filling.{fill_checks, load_checks, accept_checks}
use Rattle.access.specs.Rules.Due.{checks}
use Rattle.access.specs.Rules.Changes.{Served, Does}
use Rattle.access.specs.Rules.Tracking.{Tracks}
use Rattle.access.proofs.Model.Local.{separation, from_separation, to_local}
use Rattle.access.proofs.Model.Keeping.{Good, good_after}
use Rattle.access.proofs.History.Running.{from_good}
use Rattle.access.proofs.Rules.Judging.{all_met}
use Rattle.access.proofs.Rules.Legality.{legal_needs}
use Rattle.access.proofs.Rules.Following.{serves_model}
use Rattle.access.proofs.Rules.Sameness.{Same, turned, through, sane_same, good_same, operated_same, legal_same}
use Rattle.access.proofs.Rules.Matching.{Kept, alike_same, filled_kept, loaded_kept, filled_phase, loaded_phase}

-- the account matches the view, and in service the view is good
abbrev Fine : Account → View → Type 0
Fine a v = Kept a v × (v.phase ≡ service → Good (layout v))

pub phases_differ : filling ≡ service → ⊥
phases_differ e = grind arith

no_service : (v : View) {P : Type 0} → v.phase ≡ filling → v.phase ≡ service → P
no_service v p q = grind arith

alike_kept : (a : Account) (w v : View) → w ≗ v → Kept a v → Kept a w
alike_kept = grind arith

alike_fine : (a : Account) (w v : View) → w ≗ v → Fine a v → Fine a w
alike_fine a w v is (kept, good) =
    (alike_kept a w v is kept, λ s. good_same (layout v) (layout w) (turned (alike_same is)) (good (sym is.phase ∙ s)))

fresh_kept : (size limit : ℕ) → Kept blank (fresh size limit)
fresh_kept size limit = grind arith

fresh_fine : (size limit : ℕ) → Fine blank (fresh size limit)
fresh_fine size limit = grind arith

-- what a service call leaves alone, and where it leaves entities
served_frame : (v : View) (op : Operation) (w : View) → Served v op w
    → (w.compartments ≡ v.compartments) × (w.phase ≡ v.phase) × ((A B : ℕ) → w.arrow A B ≡ v.arrow A B)
    × ((x : ℕ) → w.home x ≡ home_after (layout v) op x)
served_frame = grind arith

served_same : (v : View) (op : Operation) (w : View) → Sane (state (layout v)) → Legal (state (layout v)) op
    → Served v op w
    → Same (layout w) (operated (layout v) op)
served_same v op w sane legal served =
    let (_, _, arrows, homes) = served_frame v op w served in
    record {
      home = homes;
      arrow = λ A B. (λ e. sym (arrows A B) ∙ e, λ e. arrows A B ∙ e);
      holds = (serves_model v op w sane legal served).holds;
    }

served_fine : (a : Account) (v : View) (op : Operation) (w : View) → v.phase ≡ service → Legal (state (layout v)) op
    → Served v op w
    → Fine a v → Fine (record { names = a.names; layout = operated a.layout op }) w
served_fine a v op w phase legal served ((match, sane), good) =
    ((record { names = names; same = same }, after_good.0), λ _. after_good)
  where
    same_w : Same (layout w) (operated (layout v) op)
    same_w = served_same v op w sane legal served

    after_good : Good (layout w)
    after_good =
        good_same (operated (layout v) op) (layout w) (turned same_w) (good_after (layout v) (good phase) op legal)

    names : names_of w ≡ a.names
    names = ap (map (λ c. c.name)) (served_frame v op w served).0 ∙ match.names

    same : Same (layout w) (operated a.layout op)
    same = through same_w (operated_same (layout v) a.layout op match.same)

failed_fine : (a : Account) (v w : View) (wrong : Bool) → w ≗ cond wrong v (emptied v) → Fine a v
    → Fine (cond wrong a blank) w
failed_fine a v w true is fine = alike_fine a w v is fine
failed_fine a v w false is fine = alike_fine blank w (emptied v) is (fresh_fine v.size v.limit)

fine_after : (a : Account) (v : View) (call : Call) (answer : Answer) (w : View) → Fine a v → Does v call answer w
    → Fine (fed a call answer) w
fine_after a v (fill f) (Ok u) w (kept, _) (due, is) =
    let (phase, needs) = all_met (checks v (fill f)) (Ok u) refl due in
    (alike_kept _ w (filled v None f) is (filled_kept a v None f needs kept), no_service w (is.phase ∙ filled_phase v None f ∙ phase))
fine_after a v (fill f) (Err _) w fine (_, is) = alike_fine a w v is fine
fine_after a v (load said ending) (Ok u) w fine (due, is) =
    let (_, needs) = all_met (checks v (load said ending)) (Ok u) refl due in (
      alike_kept _ w (loaded (emptied v) 0 said) is (loaded_kept blank (emptied v) 0 said ending needs (fresh_kept v.size v.limit)),
      no_service w (is.phase ∙ loaded_phase (emptied v) 0 said),
    )
fine_after a v (load said ending) (Err refusal) w fine (_, is) = failed_fine a v w (wrong_phase refusal) is fine
fine_after a v (accept marks) (Ok u) w ((match, sane), _) (due, is) =
    let (_, (_, (separate, (flow, _)))) = all_met (checks v (accept marks)) (Ok u) refl due in
    let same = turned (alike_same is) in (
      alike_kept a w _ is (record { names = match.names; same = match.same }, sane),
      λ _. good_same (layout v) (layout w) same (sane, to_local (layout v) sane separate flow),
    )
fine_after a v (accept marks) (Err _) w fine (_, is) = alike_fine a w v is fine
fine_after a v (ask q) answer w fine (_, is) = alike_fine a w v is fine
fine_after a v (serve op marks) (Ok u) w fine (due, served) =
    let (phase, (_, (_, needs))) = all_met (checks v (serve op marks)) (Ok u) refl due in
    served_fine a v op w phase (legal_needs v op needs).0 served fine
fine_after a v (serve op marks) (Err _) w fine (_, is) = alike_fine a w v is fine

to_fine : (past : List Event) (v : View) → Tracks past v → Fine (account past) v
to_fine past v tracks = (
  (
    record {
      names =
          tracks.names;
      same = same;
    },
    sane_same (after past) (layout v) (turned same) tracks.sane,
  ),
  good,
)
  where
    same : Same (layout v) (after past)
    same = record { home = tracks.home; arrow = tracks.arrow; holds = tracks.holds }

    good : v.phase ≡ service → Good (layout v)
    good phase =
        let (separation, flow) = tracks.served phase in
        let local = to_local (after past) tracks.sane (from_separation (after past) tracks.sane separation) flow in
        good_same (after past) (layout v) (turned same) (tracks.sane, local)

from_fine : (past : List Event) (v : View) → Fine (account past) v → Tracks past v
from_fine = grind (arith, from_good, good_same, separation)

pub begins : (size limit : ℕ) → Tracks [] (fresh size limit)
begins size limit = grind arith

pub goes_on : (past : List Event) (v : View) (call : Call) (answer : Answer) (w : View) → Tracks past v
    → Does v call answer w
    → Tracks (record { call = call; answer = answer } ∷ past) w
goes_on past v call answer w tracks does = search (rules, fine_after, from_fine, to_fine)

-- a call that has to come while filling is refused in service
too_late : (v : View) (rest : List Check) (answer : Answer) → v.phase ≡ service
    → Answered ((v.phase ≡ filling otherwise WrongPhase) ∷ rest) answer → answer ≡ Err WrongPhase
too_late = grind arith

pub in_service : (past : List Event) (v : View) (call : Call) (answer : Answer) (w : View) → Tracks past v
    → v.phase ≡ service
    → Does v call answer w → InService past call answer
in_service past v (fill f) answer w tracks phase (due, _) = too_late v (fill_checks v f) answer phase due
in_service past v (load said ending) answer w tracks phase (due, _) =
    too_late v (load_checks (emptied v) 0 said ending) answer phase due
in_service past v (accept marks) answer w tracks phase (due, _) = too_late v (accept_checks v marks) answer phase due
in_service past v (ask q) answer w tracks phase does = tt
in_service past v (serve op marks) (Ok u) w tracks phase (due, _) =
    let (_, (_, (_, needs))) = all_met (checks v (serve op marks)) (Ok u) refl due in
    legal_same (layout v) (after past) (to_fine past v tracks).0.0.same op (legal_needs v op needs).0
in_service past v (serve op marks) (Err _) w tracks phase does = tt
