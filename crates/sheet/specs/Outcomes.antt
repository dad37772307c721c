-- What a reader answers, and the bytes that call for each answer.
use Rattle.std.specs.Prelude.{◌≡◌, ℕ, ◌<◌, List, [], ◌++◌, length, Some, None, Ok, Err, Option, Result}
use Rattle.sheet.specs.declared.fault.Flaw.{Flaw}
use Rattle.sheet.specs.declared.fault.Fault.{Fault}
use Rattle.sheet.specs.declared.record.Record.{Record}
use Rattle.sheet.specs.Entries.{Entry, bytes, Lawful}
use Rattle.sheet.specs.Flaws.{Flawed}
use Rattle.sheet.specs.Records.{said, Located}

-- a record that says this, the end of the sheet, or a flaw
pub data Outcome : Type 0 where
  entry : Entry → Outcome
  end : Outcome
  broken : Flaw → Outcome

-- a lawful record that says this is the front of these bytes
abbrev pub Stands : Entry → List ℕ → Type 0
Stands said rest = Lawful said × ((more : List ℕ) × (rest ≡ bytes said ++ more))

-- the outcome that the bytes from a place to the end of a sheet call for
abbrev pub Shows : List ℕ → Outcome → Type 0
Shows rest (entry said) = Stands said rest
Shows rest end = rest ≡ []
Shows rest (broken flaw) = Flawed flaw rest

-- neither the end nor a lawful record
abbrev pub NoRecord : List ℕ → Type 0
NoRecord rest = (0 < length rest) × ((said : Entry) → Stands said rest → ⊥)

-- what a reader's answer says
abbrev pub outcome : Result (Option Record) Fault → Outcome
outcome (Ok (Some found)) = entry (said found)
outcome (Ok None) = end
outcome (Err fault) = broken fault.flaw

-- what is found at a place of a sheet tells that place
abbrev pub Placed : List ℕ → ℕ → Result (Option Record) Fault → Type 0
Placed sheet at (Ok (Some found)) = Located sheet at found
Placed sheet at (Ok None) = Unit {0}
Placed sheet at (Err fault) = fault.place ≡ at

-- how far a reader goes
abbrev pub width : Outcome → ℕ
width (entry said) = length (bytes said)
width end = 0
width (broken flaw) = 0
