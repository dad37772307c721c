-- The examples for the refusals.
use Rattle.std.proofs.Common.{[], ◌∷◌, Err, sym, refl, inr, ⊎_elim, arith, lit<, lit≤}
use Rattle.std.proofs.lemmas.Bool.{true≢false}
use Rattle.refusal.specs.declared.Refusal.TheVariants as refuse
use Rattle.sheet.specs.Entries.{arrow}
use Rattle.access.specs.Chains.{here}
use Rattle.access.specs.Model.States.{cap}
use Rattle.access.specs.Model.Operations.{create}
use Rattle.access.specs.History.Calls.{serve, broken}
use Rattle.access.specs.Rules.Sets.{total, members}
use Rattle.access.specs.Rules.Needs.{Uses}
use Rattle.access.specs.Rules.Due.{Due}
use Rattle.access.specs.Rules.Worked.{gauge, solver}
use Rattle.access.specs.Rules.Examples.{opened, opened_at_five, Examples}
use Rattle.access.proofs.Rules.Tracked.{phases_differ}
use Rattle.access.proofs.Worked.Sheet.{◌then◌, some_none, loads}
use Rattle.access.proofs.Worked.TenCalls.{no_write, no_read, creates}

at_five : Due opened_at_five (serve (create 0 4 (cap 0 8) (cap 1 18)) 128) (Err refuse.Full)
unfolding members total
at_five =
    refl
    then (lit< tt, lit< tt, (lit< tt, lit≤ tt), (lit< tt, lit≤ tt))
    then lit≤ tt
    then (0, refl)
    then some_none _ refl
    then ((0, here, refl), (0, here, refl))
    then (refl, refl, refl)
    then inr (⊎_elim (λ e. true≢false (sym e)) (λ room. room refl), refl)

-- holding (1, 18) is not holding (1, 31)
not_whole : Uses opened 0 (cap 1 31) → ⊥
not_whole = grind arith

pub examples : Examples
examples = record {
  filling_yet = inr (phases_differ, refl);
  entity_8 = refl then inr (λ (small, _). absurd (omega arith), refl);
  rights_32 = refl then inr (λ (_, (_, small)). absurd (omega arith), refl);
  rights_31 = refl then (lit< tt, (lit< tt, lit≤ tt)) then lit≤ tt then (0, refl) then inr (not_whole, refl);
  marks_127 = refl then (lit< tt, (lit< tt, lit≤ tt)) then inr (λ long. absurd (omega arith), refl);
  absent_5 = refl then (lit< tt, (lit< tt, lit≤ tt)) then lit≤ tt then inr (some_none _ refl, refl);
  present_3 =
      refl then (lit< tt, lit< tt, (lit< tt, lit≤ tt), (lit< tt, lit≤ tt)) then lit≤ tt then (0, refl)
      then inr (λ absent. absent (1, refl), refl);
  unreachable = no_write;
  missing_right = no_read;
  limit_5 = at_five;
  limit_6 = creates;
  held_3 = refl then lit< tt then tt then (1, refl) then inr (λ nobody. nobody 3 16 refl, refl);
  broken_end =
      loads (arrow gauge solver ∷ []) broken (Err refuse.Broken) ((lit< tt, lit< tt) then inr (λ never. never, refl));
  sixteenth = refl then refl then lit< tt then ((lit≤ tt, lit≤ tt), (refl, tt)) then refl;
  seventeenth = refl then refl then inr (λ few. absurd (omega arith), refl);
}
