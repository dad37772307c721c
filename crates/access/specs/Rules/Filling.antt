-- How fill calls, load and accept are judged.
use Rattle.std.specs.Prelude.{◌≡◌, ℕ, ◌+◌, ◌<◌, List, [], ◌∷◌, ◌++◌, length, Some, None, Option}
use Rattle.refusal.specs.declared.Refusal.TheVariants as refuse
use Rattle.sheet.specs.Names.{LawfulName}
use Rattle.sheet.specs.Entries.{Entry, bytes}
use Rattle.access.specs.Model.Confinement.{Separate, Flow}
use Rattle.access.specs.History.Calls.{Fill, declare, place_entity, place_capability, draw_arrow, Ending, whole, broken}
use Rattle.access.specs.History.Names.{numbered, stands_for}
use Rattle.access.specs.Rules.Views.{View, layout, names, declared, Room}
use Rattle.access.specs.Rules.Checks.{Check, ◌otherwise◌}
use Rattle.access.specs.Rules.Filled.{recorded}
use Rattle.access.specs.Rules.Needs.{Here, EntityNumber, CapabilityNumbers, LongEnough}

abbrev pub fill_checks : View → Fill → List Check
fill_checks v (declare name) =
    (numbered name (names v) ≡ None otherwise refuse.Present)
    ∷ (declared v < 16 otherwise refuse.Full)
    ∷ (LawfulName name otherwise refuse.Broken)
    ∷ []
fill_checks v (place_entity e A) =
    ((EntityNumber v e × (A < declared v)) otherwise refuse.OutOfRange)
    ∷ ((Here v e → ⊥) otherwise refuse.Present)
    ∷ []
fill_checks v (place_capability h c) =
    ((EntityNumber v h × CapabilityNumbers v c) otherwise refuse.OutOfRange)
    ∷ ((Here v h × Here v c.target) otherwise refuse.Absent)
    ∷ (Room v h c.target c.rights otherwise refuse.Full)
    ∷ []
fill_checks v (draw_arrow A B) = (((A < declared v) × (B < declared v)) otherwise refuse.OutOfRange) ∷ []

-- a record is judged as the fill call that it stands for, if its names are declared
abbrev pub record_checks : View → Option Fill → List Check
record_checks v None = (⊥ otherwise refuse.Broken) ∷ []
record_checks v (Some f) = fill_checks v f

-- a sheet's records one after another, and then what follows them; `at` is the place of the first
abbrev pub load_checks : View → ℕ → List Entry → Ending → List Check
load_checks v at [] whole = []
load_checks v at [] broken = (⊥ otherwise refuse.Broken) ∷ []
load_checks v at (said ∷ more) ending =
    record_checks v (stands_for (names v) said) ++ load_checks (recorded v at said) (at + length (bytes said)) more ending

abbrev pub accept_checks : View → ℕ → List Check
accept_checks v marks =
    (LongEnough marks otherwise refuse.ShortBuffer)
    ∷ (Separate (layout v) otherwise refuse.Connected)
    ∷ (Flow (layout v) otherwise refuse.Uncharted)
    ∷ []
