-- What the program's answer says of the sheet of its input.
use Rattle.std.specs.Prelude.{◌≡◌, ℕ, ◌⊎◌, List, Ok, Err, Result}
use Rattle.refusal.specs.declared.Refusal.{Refusal}
use Rattle.refusal.specs.declared.Refusal.TheVariants.{Broken, OutOfRange}
use Rattle.protocol.specs.Inputs.{Cut, Framed, Outside, sheet_of}
use Rattle.sheet.specs.declared.fault.Fault.{Fault}
use Rattle.sheet.specs.Entries.{Entry}
use Rattle.sheet.specs.Sheets.{WellFormed, BrokenAt}

-- the sheet is lawful records from its first byte to its last
abbrev pub Lawful : List ℕ → Type 0
Lawful input = Framed input × ((said : List Entry) × WellFormed (sheet_of input) said)

-- the input ends before its sheet does, or a record of the sheet is broken
abbrev pub Damaged : List ℕ → Type 0
Damaged input = Cut input ⊎ (Framed input × ((fault : Fault) × BrokenAt (sheet_of input) fault))

-- no two of these are true of one input, since no sheet is both well formed and broken
abbrev pub Verdict : List ℕ → Result (Unit {0}) Refusal → Type 0
Verdict input (Ok _) = Lawful input
Verdict input (Err refusal) = ((refusal ≡ Broken) × Damaged input) ⊎ ((refusal ≡ OutOfRange) × Outside input)
