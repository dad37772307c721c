-- Two sheets that accept refuses, and what it tells.
use Rattle.std.proofs.Common.{◌≡◌, ℕ, zero, suc, ◌≤◌, [], ◌∷◌, ◌++◌, Ok, sym, refl, inl, inr, arith, lit<, lit≤}
use Rattle.std.proofs.lemmas.Bool.{eqb-false, true≢false}
use Rattle.refusal.specs.declared.Refusal.TheVariants as refuse
use Rattle.sheet.specs.Entries.{capability, arrow}
use Rattle.access.specs.Chains.{here, step}
use Rattle.access.specs.Model.States.{Reaches}
use Rattle.access.specs.Model.Layouts.{Lives, state, Steps}
use Rattle.access.specs.Model.Confinement.{Separate}
use Rattle.access.specs.History.Calls.{whole, load}
use Rattle.access.specs.Rules.Sets.{total, members}
use Rattle.access.specs.Rules.Views.{View, layout}
use Rattle.access.specs.Rules.Filled.{loaded}
use Rattle.access.specs.Rules.Due.{Due}
use Rattle.access.specs.Rules.Telling.{Grouped, Strays, FirstStray, FirstUnarrowed}
use Rattle.access.specs.Rules.Worked.{gauge, solver, without_arrow, worked, empty, Rejected}
use Rattle.access.proofs.Worked.Sheet.{◌then◌, loads, worked_separate}
use Rattle.access.proofs.Worked.TenCalls.{alike}

-- 1 holds (3, 16) as well
abbrev joined : View
joined = loaded empty 0 (worked ++ capability 1 3 16 ∷ [])

joined_loads : Due empty (load (worked ++ capability 1 3 16 ∷ []) whole) (Ok tt)
unfolding members total
joined_loads =
    loads (arrow gauge solver ∷ capability 1 3 16 ∷ []) whole (Ok tt)
    ((lit< tt, lit< tt) then (lit< tt, (lit< tt, lit≤ tt)) then ((0, refl), (1, refl)) then inr (eqb-false _ 6 refl) then refl)

-- everyone reaches 3
from_one : Reaches (state (layout joined)) 1 3
from_one = step here (16, refl, refl)

from_zero : Reaches (state (layout joined)) 0 3
from_zero = step {y = 1} (step here (18, refl, refl)) (16, refl, refl)

from_two : Reaches (state (layout joined)) 2 3
from_two = step here (20, refl, refl)

one_with_zero : Grouped joined 1 0
one_with_zero = ((0, refl), (0, refl), step here ((0, refl), (0, refl), inl (inr (3, from_one, from_zero))))

two_with_zero : Grouped joined 2 0
two_with_zero = ((1, refl), (0, refl), step here ((1, refl), (0, refl), inl (inr (3, from_two, from_zero))))

not_separate : Separate (layout joined) → ⊥
not_separate separate =
    let z : ◌≡◌ {A = ℕ} 0 1 = separate 1 3 0 1 refl refl (inl (inr (3, from_one, here))) in omega arith

-- an entity of compartment 0 that is in a group with 0 does not stray
at_home : (e : ℕ) → Lives (layout joined) e 0 → Grouped joined e 0 → Strays joined e → ⊥
at_home = grind arith

first_stray : FirstStray joined 2
first_stray = ((0, 1, 0, (two_with_zero, λ _ _. omega arith), refl, refl, λ (e : ◌≡◌ {A = ℕ} 1 0). omega arith), others)
  where
    others : (other : ℕ) → Strays joined other → 2 ≤ other
    others zero strays = absurd (at_home 0 refl ((0, refl), (0, refl), here) strays)
    others (suc zero) strays = absurd (at_home 1 refl one_with_zero strays)
    others (suc (suc other)) strays = omega arith

pub connected : Rejected (worked ++ capability 1 3 16 ∷ []) 10 (λ v. FirstStray v 2)
connected =
    (joined, refuse.Connected, (joined_loads, alike joined), refl then lit≤ tt then inr (not_separate, refl), refl, first_stray)

abbrev bare : View
bare = loaded empty 0 without_arrow

writes_across : Steps (layout bare) 0 1
writes_across = (λ (e : ◌≡◌ {A = ℕ} 0 1). omega arith, 1, 2, refl, refl, inl (2, (1, here, refl), refl))

first_unarrowed : FirstUnarrowed bare 0 1
first_unarrowed = grind (arith, writes_across)

pub uncharted : Rejected without_arrow 11 (λ v. FirstUnarrowed v 0 1)
uncharted = (
  bare,
  refuse.Uncharted,
  (loads [] whole (Ok tt) refl, alike bare),
  refl then lit≤ tt then worked_separate then inr (λ flow. true≢false (sym (flow 0 1 writes_across)), refl),
  refl,
  first_unarrowed,
)
