-- Whole sheets, and what is true of the format.
use Rattle.std.specs.Prelude.{◌≡◌, ℕ, ◌+◌, List, [], ◌∷◌, ◌++◌, length, drop, Ok, Err, Result}
use Rattle.std.specs.List.{AllByRecursion}
use Rattle.sheet.specs.declared.fault.Fault.{Fault}
use Rattle.sheet.specs.Entries.{Entry, bytes, Lawful, written}
use Rattle.sheet.specs.Flaws.{Flawed}
use Rattle.sheet.specs.Outcomes.{entry, end, Stands, Shows}

-- the sheet is these lawful records, one after another
abbrev pub WellFormed : List ℕ → List Entry → Type 0
WellFormed sheet said = AllByRecursion Lawful said × (sheet ≡ written said)

-- the sheet begins with lawful records, and then comes a flaw
abbrev pub BrokenAt : List ℕ → Fault → Type 0
BrokenAt sheet fault =
    (said : List Entry) × (rest : List ℕ) × AllByRecursion Lawful said × (sheet ≡ written said ++ rest)
    × (length (written said) ≡ fault.place) × Flawed fault.flaw rest

-- what the number of a sheet's records, or its fault, says of the sheet
abbrev pub Counted : List ℕ → Result ℕ Fault → Type 0
Counted sheet (Ok count) = (said : List Entry) × WellFormed sheet said × (length said ≡ count)
Counted sheet (Err fault) = BrokenAt sheet fault

-- from a place on, a reader answers these records and then the end
abbrev pub Reads : List ℕ → ℕ → List Entry → Type 0
Reads sheet at [] = Shows (drop at sheet) end
Reads sheet at (said ∷ more) = Shows (drop at sheet) (entry said) × Reads sheet (at + length (bytes said)) more

-- two different records never stand at one place
abbrev pub Unambiguous : Type 0
Unambiguous = (rest : List ℕ) (a b : Entry) → Stands a rest → Stands b rest → a ≡ b

-- lawful records that are written one after another are read back as themselves
abbrev pub ReadBack : Type 0
ReadBack = (said : List Entry) → AllByRecursion Lawful said → Reads (written said) 0 said

-- and no other lawful records are written as the same sheet
abbrev pub OneReading : Type 0
OneReading = (a b : List Entry) → AllByRecursion Lawful a → AllByRecursion Lawful b → written a ≡ written b → a ≡ b
