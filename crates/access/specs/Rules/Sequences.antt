-- Calls made one after another.
use Rattle.std.specs.Prelude.{◌≡◌, ℕ, List, [], ◌∷◌}
use Rattle.refusal.specs.Numbers.{number_of}
use Rattle.access.specs.History.Calls.{Call, Answer}
use Rattle.access.specs.Rules.Views.{View, ◌≗◌}
use Rattle.access.specs.Rules.Changes.{Does}

-- from v on, these calls get answers with these numbers
abbrev pub Yields : View → List Call → List ℕ → Type 0
Yields v [] [] = Unit {0}
Yields v [] (number ∷ numbers) = ⊥
Yields v (call ∷ calls) [] = ⊥
Yields v (call ∷ calls) (number ∷ numbers) =
    (answer : Answer) × (w : View) × (number_of answer ≡ number) × Does v call answer w × Yields w calls numbers

-- no call has two outcomes
abbrev pub OneOutcome : Type 0
OneOutcome =
    (v : View) (call : Call) (one other : Answer) (w u : View) → Does v call one w → Does v call other u
    → (one ≡ other) × (w ≗ u)

-- so calls that are made one after another get no other answers
abbrev pub OneRun : Type 0
OneRun =
    (v : View) (calls : List Call) (numbers others : List ℕ) → Yields v calls numbers → Yields v calls others → numbers ≡ others
