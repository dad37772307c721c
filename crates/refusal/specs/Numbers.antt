-- The numbers of the refusals.
use Rattle.std.specs.Prelude.{ℕ, Ok, Err, Result}
use Rattle.refusal.specs.declared.Refusal.{Refusal}
use Rattle.refusal.specs.declared.Refusal.TheVariants.{
  WrongPhase,
  OutOfRange,
  ShortBuffer,
  Absent,
  Present,
  Unreachable,
  MissingRight,
  Full,
  Held,
  Connected,
  Uncharted,
  Broken,
}

abbrev pub number : Refusal → ℕ
number WrongPhase = 1
number OutOfRange = 2
number ShortBuffer = 3
number Absent = 4
number Present = 5
number Unreachable = 6
number MissingRight = 7
number Full = 8
number Held = 9
number Connected = 10
number Uncharted = 11
number Broken = 12

-- what is accepted answers 0
abbrev pub number_of : Result (Unit {0}) Refusal → ℕ
number_of (Ok _) = 0
number_of (Err refusal) = number refusal
