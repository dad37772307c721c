-- The ten calls on the worked sheet get their answers.
use Rattle.std.proofs.lemmas.Grind.{common_steps}
use Rattle.std.proofs.Common.{ℕ, cond, eqb, None, Ok, Err, Option, sym, refl, inr, ⊎_elim, lit<, lit≤, arith}
use Rattle.std.proofs.lemmas.Bool.{eqb-false, true≢false}
use Rattle.refusal.specs.declared.Refusal.TheVariants as refuse
use Rattle.access.specs.Chains.{here, step}
use Rattle.access.specs.Model.States.{cap}
use Rattle.access.specs.Model.Operations.{read, write, create, grant, remove, delete}
use Rattle.access.specs.History.Calls.{serve}
use Rattle.access.specs.Rules.Sets.{added, removed, dropped, total, members}
use Rattle.access.specs.Rules.Views.{View, with_homes, with_triples, ◌≗◌}
use Rattle.access.specs.Rules.Needs.{Uses}
use Rattle.access.specs.Rules.Due.{Due}
use Rattle.access.specs.Rules.Sequences.{Yields}
use Rattle.access.specs.Rules.Worked.{calls, answers}
use Rattle.access.specs.Rules.Examples.{opened}
use Rattle.access.proofs.Worked.Sheet.{◌then◌, some_none, homes}

-- the table with entity 4 in it, and 1 holding (4, 31); without this capability; and after the last call
abbrev made : ℕ → Option ℕ
made x = cond (eqb x 4) (homes 0) (homes x)

abbrev created : View
created = with_triples (with_homes opened made) (added 1 4 31 opened.holds)

abbrev unheld : View
unheld = with_homes opened made

abbrev granted : View
granted = with_triples opened (added 3 3 4 opened.holds)

pub alike : (v : View) → v ≗ v
alike v = grind arith

by_one : Uses opened 0 (cap 2 2)
by_one = (1, step here (18, refl, refl), refl)

writes : Due opened (serve (write 0 (cap 2 2)) 128) (Ok tt)
writes = grind (arith, by_one)

pub not_reachable : Uses opened 2 (cap 2 2) → ⊥
not_reachable = grind arith

pub no_write : Due opened (serve (write 2 (cap 2 2)) 128) (Err refuse.Unreachable)
no_write = refl then (lit< tt, (lit< tt, lit≤ tt)) then lit≤ tt then (1, refl) then inr (not_reachable, refl)

pub no_read : Due opened (serve (read 0 (cap 2 2)) 128) (Err refuse.MissingRight)
no_read = grind (arith, by_one)

pub creates : Due opened (serve (create 0 4 (cap 0 8) (cap 1 18)) 128) (Ok tt)
unfolding members total
creates =
    refl
    then (lit< tt, lit< tt, (lit< tt, lit≤ tt), (lit< tt, lit≤ tt))
    then lit≤ tt
    then (0, refl)
    then some_none _ refl
    then ((0, here, refl), (0, here, refl))
    then (refl, refl, refl)
    then inr (eqb-false _ 6 refl)
    then refl

not_twice : Due created (serve (create 0 4 (cap 0 8) (cap 1 18)) 128) (Err refuse.Present)
not_twice = grind arith

full : Due created (serve (grant 2 (cap 3 20) (cap 3 20) 4 (cap 3 16)) 128) (Err refuse.Full)
unfolding members total
full =
    refl
    then (lit< tt, (lit< tt, lit≤ tt), (lit< tt, lit≤ tt), lit≤ tt, (lit< tt, lit≤ tt))
    then lit≤ tt
    then (1, refl)
    then ((2, here, refl), (2, here, refl), (3, here, refl))
    then (refl, refl)
    then inr (⊎_elim (λ e. true≢false (sym e)) (λ room. room refl), refl)

held : Due created (serve (delete 4) 0) (Err refuse.Held)
held = refl then lit< tt then tt then (0, refl) then inr (λ nobody. nobody 1 31 refl, refl)

removes : Due created (serve (remove 0 (cap 1 18) (cap 4 31)) 128) (Ok tt)
removes =
    refl
    then (lit< tt, (lit< tt, lit≤ tt), (lit< tt, lit≤ tt))
    then lit≤ tt
    then (0, refl)
    then (0, here, refl)
    then refl

deletes : Due unheld (serve (delete 4) 0) (Ok tt)
deletes = grind arith

grants : Due opened (serve (grant 2 (cap 3 20) (cap 3 20) 4 (cap 3 16)) 128) (Ok tt)
unfolding members total
grants =
    refl
    then (lit< tt, (lit< tt, lit≤ tt), (lit< tt, lit≤ tt), lit≤ tt, (lit< tt, lit≤ tt))
    then lit≤ tt
    then (1, refl)
    then ((2, here, refl), (2, here, refl), (3, here, refl))
    then (refl, refl)
    then inr (eqb-false _ 6 refl)
    then refl

after_remove : unheld ≗ with_triples created (removed 1 4 31 created.holds)
after_remove = grind (arith, common_steps)

after_delete : opened ≗ with_triples (with_homes unheld (λ x. cond (eqb x 4) None (made x))) (dropped 4 unheld.holds)
after_delete = grind (arith, common_steps)

pub ten : Yields opened calls answers
ten = (
  Ok tt,
  opened,
  refl,
  (writes, alike opened),
  (
    Err refuse.Unreachable,
    opened,
    refl,
    (no_write, alike opened),
    (
      Err refuse.MissingRight,
      opened,
      refl,
      (no_read, alike opened),
      (
        Ok tt,
        created,
        refl,
        (creates, alike created),
        (
          Err refuse.Present,
          created,
          refl,
          (not_twice, alike created),
          (
            Err refuse.Full,
            created,
            refl,
            (full, alike created),
            (
              Err refuse.Held,
              created,
              refl,
              (held, alike created),
              (
                Ok tt,
                unheld,
                refl,
                (removes, after_remove),
                (
                  Ok tt,
                  opened,
                  refl,
                  (deletes, after_delete),
                  (Ok tt, granted, refl, (grants, alike granted), tt),
                ),
              ),
            ),
          ),
        ),
      ),
    ),
  ),
)
