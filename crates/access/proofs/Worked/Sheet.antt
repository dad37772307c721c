-- The worked sheet loads, and accept passes it.
use Rattle.std.proofs.Common.{◌≡◌, ℕ, ◌⊎◌, List, [], ◌∷◌, ◌++◌, Some, None, Ok, Option, refl, inl, inr, lit<, lit≤, arith}
use Rattle.std.specs.List.{AllByRecursion}
use Rattle.std.proofs.lemmas.Bool.{eqb-false}
use Rattle.sheet.specs.Names.{LawfulName}
use Rattle.sheet.specs.Entries.{Entry, arrow, Lawful}
use Rattle.access.specs.Model.States.{Sane}
use Rattle.access.specs.Model.Layouts.{state}
use Rattle.access.specs.Model.Confinement.{Separate, Local}
use Rattle.access.specs.History.Calls.{Ending, whole, load, accept, Answer}
use Rattle.access.specs.Rules.Sets.{total, members}
use Rattle.access.specs.Rules.Views.{layout}
use Rattle.access.specs.Rules.Filled.{loaded}
use Rattle.access.specs.Rules.Checks.{Answered}
use Rattle.access.specs.Rules.Filling.{load_checks}
use Rattle.access.specs.Rules.Due.{Due}
use Rattle.access.specs.Rules.Worked.{gauge, solver, without_arrow, worked, empty}
use Rattle.access.proofs.Worked.Listed.{listed_sane, listed_local}
use Rattle.access.proofs.Model.Local.{separate, flow}

-- a need that is met, and then the rest
infixr 3 ◌then◌
pub ◌then◌ : {N R S : Type 0} → N → R → (N × R) ⊎ S
met then rest = inl (met, rest)

pub some_none : (o : Option ℕ) → o ≡ None → (A : ℕ) × (o ≡ Some A) → ⊥
some_none = grind arith

gauge_lawful : LawfulName gauge
gauge_lawful = grind arith

solver_lawful : LawfulName solver
solver_lawful = grind arith

pub worked_lawful : AllByRecursion Lawful worked
worked_lawful = grind arith

-- the records of the sheet without its arrow pass, whatever comes behind their 69 bytes
pub loads : (more : List Entry) (ending : Ending) (answer : Answer)
    → Answered (load_checks (loaded empty 0 without_arrow) 69 more ending) answer
    → Due empty (load (without_arrow ++ more) ending) answer
unfolding members total
loads more ending answer rest =
    refl
    then refl then lit< tt then gauge_lawful
    then refl then lit< tt then solver_lawful
    then (lit< tt, lit< tt) then some_none _ refl
    then (lit< tt, lit< tt) then some_none _ refl
    then (lit< tt, lit< tt) then some_none _ refl
    then (lit< tt, lit< tt) then some_none _ refl
    then (lit< tt, (lit< tt, lit≤ tt)) then ((0, refl), (0, refl)) then inr (eqb-false _ 6 refl)
    then (lit< tt, (lit< tt, lit≤ tt)) then ((0, refl), (0, refl)) then inr (eqb-false _ 6 refl)
    then (lit< tt, (lit< tt, lit≤ tt)) then ((0, refl), (1, refl)) then inr (eqb-false _ 6 refl)
    then (lit< tt, (lit< tt, lit≤ tt)) then ((1, refl), (1, refl)) then inr (eqb-false _ 6 refl)
    then (lit< tt, (lit< tt, lit≤ tt)) then ((1, refl), (1, refl)) then inr (eqb-false _ 6 refl)
    then rest

pub worked_loads : Due empty (load worked whole) (Ok tt)
worked_loads = loads (arrow gauge solver ∷ []) whole (Ok tt) ((lit< tt, lit< tt) then refl)

abbrev pub homes : ℕ → Option ℕ
homes = (loaded empty 0 worked).home

abbrev pub five : List (ℕ × ℕ × ℕ)
five = (3, 3, 16) ∷ (2, 3, 20) ∷ (1, 2, 2) ∷ (0, 0, 8) ∷ (0, 1, 18) ∷ []

pub worked_sane : Sane (state (layout (loaded empty 0 worked)))
worked_sane = listed_sane homes (loaded empty 0 worked).arrow five refl

worked_local : Local (layout (loaded empty 0 worked))
worked_local = listed_local homes (loaded empty 0 worked).arrow five refl

pub worked_separate : Separate (layout (loaded empty 0 worked))
worked_separate = separate (layout (loaded empty 0 worked)) worked_sane worked_local

pub accepts : Due (loaded empty 0 worked) (accept 128) (Ok tt)
accepts =
    refl
    then lit≤ tt
    then worked_separate
    then flow (layout (loaded empty 0 worked)) worked_sane worked_local
    then refl
