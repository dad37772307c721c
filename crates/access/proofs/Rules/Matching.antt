-- An account that matches a view goes on matching it while the table is filled.
use Rattle.std.proofs.lemmas.Grind.{common_steps}
use Rattle.std.proofs.Common.{◌≡◌, ℕ, ◌+◌, List, [], ◌∷◌, ◌++◌, length, Some, Option, refl, ◌∙◌, subst, arith}
use Rattle.sheet.specs.Entries.{Entry, bytes}
use Rattle.access.specs.Model.States.{Sane}
use Rattle.access.specs.Model.Layouts.{state}
use Rattle.access.specs.History.Calls.{Fill, Ending}
use Rattle.access.specs.History.Names.{stands_for}
use Rattle.access.specs.History.Accounts.{Account, entered, entered_if, loaded as account_loaded}
use Rattle.access.specs.Rules.Views.{View, layout, names as names_of, ◌≗◌}
use Rattle.access.specs.Rules.Checks.{Check}
use Rattle.access.specs.Rules.Filled.{filled, filled_if, recorded, loaded}
use Rattle.access.specs.Rules.Filling.{fill_checks, record_checks, load_checks}
use Rattle.access.proofs.Rules.Judging.{AllMet}
use Rattle.access.proofs.Rules.Sameness.{Same}

pub record Matches (a : Account) (v : View) : Type 0 where
  pub names : names_of v ≡ a.names
  pub same : Same (layout v) a.layout

-- views that are alike match alike
pub alike_same : {w v : View} → w ≗ v → Same (layout w) (layout v)
alike_same is = grind arith

filled_match : (a : Account) (v : View) (met : Option ℕ) (f : Fill) → Matches a v → Matches (entered a f) (filled v met f)
filled_match = grind (arith, common_steps)

-- a fill call whose needs are met keeps holders and targets present
filled_sane : (v : View) (met : Option ℕ) (f : Fill) → AllMet (fill_checks v f) → Sane (state (layout v))
    → Sane (state (layout (filled v met f)))
filled_sane = grind arith

-- an account and a view that match, and are sane
abbrev pub Kept : Account → View → Type 0
Kept a v = Matches a v × Sane (state (layout v))

pub filled_kept : (a : Account) (v : View) (met : Option ℕ) (f : Fill) → AllMet (fill_checks v f) → Kept a v
    → Kept (entered a f) (filled v met f)
filled_kept a v met f needs (match, sane) = (filled_match a v met f match, filled_sane v met f needs sane)

recorded_kept : (a : Account) (v : View) (met : Option ℕ) (f : Option Fill) → AllMet (record_checks v f) → Kept a v
    → Kept (entered_if a f) (filled_if v met f)
recorded_kept = grind (arith, common_steps)

needs_parts : (list more : List Check) → AllMet (list ++ more) → AllMet list × AllMet more
needs_parts [] more needs = (tt, needs)
needs_parts (check ∷ list) more (met, needs) = let (p, q) = needs_parts list more needs in ((met, p), q)

pub loaded_kept : (a : Account) (v : View) (at : ℕ) (said : List Entry) (ending : Ending)
    → AllMet (load_checks v at said ending) → Kept a v
    → Kept (account_loaded a said) (loaded v at said)
loaded_kept a v at [] ending needs kept = kept
loaded_kept a v at (said ∷ more) ending needs kept =
    let (here, later) = needs_parts (record_checks v (stands_for (names_of v) said)) _ needs in
    loaded_kept (entered_if a (stands_for a.names said)) (recorded v at said) (at + length (bytes said)) more ending later
    (subst (λ (names : List (List ℕ)). Kept (entered_if a (stands_for names said)) (recorded v at said)) kept.0.names
    (recorded_kept a v (Some (at + 2)) (stands_for (names_of v) said) here kept))

-- filling goes on until accept
recorded_phase : (v : View) (met : Option ℕ) (f : Option Fill) → (filled_if v met f).phase ≡ v.phase
recorded_phase = grind arith

pub loaded_phase : (v : View) (at : ℕ) (said : List Entry) → (loaded v at said).phase ≡ v.phase
loaded_phase v at [] = refl
loaded_phase v at (said ∷ more) =
    loaded_phase (recorded v at said) (at + length (bytes said)) more ∙ recorded_phase v (Some (at + 2)) (stands_for (names_of v) said)

pub filled_phase : (v : View) (met : Option ℕ) (f : Fill) → (filled v met f).phase ≡ v.phase
filled_phase v met f = grind arith
