-- How questions are judged.
use Rattle.std.specs.Prelude.{◌≡◌, ℕ, ◌<◌, List, [], ◌∷◌, length, take, drop, Some}
use Rattle.std.specs.List.{slice_get}
use Rattle.refusal.specs.declared.Refusal.TheVariants as refuse
use Rattle.sheet.specs.Entries.{Entry, written}
use Rattle.access.specs.History.Calls.{Question, connections, sharings, steps, arrows, spare, name_of}
use Rattle.access.specs.Rules.Views.{Compartment, View, declared, emptied}
use Rattle.access.specs.Rules.Filled.{loaded}
use Rattle.access.specs.Rules.Checks.{Check, ◌otherwise◌}
use Rattle.access.specs.Rules.Needs.{LongEnough}

-- the name of compartment A stands in this sheet where load met it
abbrev pub Shown : View → ℕ → List ℕ → Type 0
Shown v A sheet =
    (c : Compartment) × (at : ℕ) × (slice_get v.compartments A ≡ Some c) × (c.met ≡ Some at)
    × (take (length c.name) (drop at sheet) ≡ c.name)

-- every name that a load has declared is shown by the sheet that was loaded
abbrev pub LoadShows : Type 0
LoadShows =
    (v : View) (said : List Entry) (A : ℕ) → A < declared (loaded (emptied v) 0 said)
    → Shown (loaded (emptied v) 0 said) A (written said)

abbrev pub question_checks : View → Question → List Check
question_checks v (connections marks groups) = ((LongEnough marks × LongEnough groups) otherwise refuse.ShortBuffer) ∷ []
question_checks v (sharings marks groups) = ((LongEnough marks × LongEnough groups) otherwise refuse.ShortBuffer) ∷ []
question_checks v (steps A marks) =
    (A < declared v otherwise refuse.OutOfRange) ∷ (LongEnough marks otherwise refuse.ShortBuffer) ∷ []
question_checks v (arrows A marks) =
    (A < declared v otherwise refuse.OutOfRange) ∷ (LongEnough marks otherwise refuse.ShortBuffer) ∷ []
question_checks v spare = []
question_checks v (name_of A sheet) = (Shown v A sheet otherwise refuse.OutOfRange) ∷ []
