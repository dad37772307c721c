-- What the records of a sheet say, and the bytes that they are written as.
use Rattle.std.specs.Prelude.{ℕ, ◌+◌, List, [], ◌∷◌, ◌++◌, length}
use Rattle.std.specs.List.{flat_map}
use Rattle.sheet.specs.Names.{LawfulName}

-- what a record enters into a table
pub data Entry : Type 0 where
  compartment : (name : List ℕ) → Entry
  entity : (home : List ℕ) (number : ℕ) → Entry
  capability : (holder target rights : ℕ) → Entry
  arrow : (from to : List ℕ) → Entry

-- the map is the sum of the bits of the fields that follow it, lowest bit first
abbrev pub name_bit : ℕ
name_bit = 1

abbrev pub entity_bit : ℕ
entity_bit = 2

abbrev pub target_bit : ℕ
target_bit = 4

abbrev pub rights_bit : ℕ
rights_bit = 8

abbrev pub second_bit : ℕ
second_bit = 16

abbrev pub compartment_map : ℕ
compartment_map = name_bit

abbrev pub entity_map : ℕ
entity_map = name_bit + entity_bit

abbrev pub capability_map : ℕ
capability_map = entity_bit + target_bit + rights_bit

abbrev pub arrow_map : ℕ
arrow_map = name_bit + second_bit

-- a name is written as its length and its bytes
abbrev pub spelled : List ℕ → List ℕ
spelled name = length name ∷ name

-- the bytes that a record is written as
abbrev pub bytes : Entry → List ℕ
bytes (compartment name) = compartment_map ∷ spelled name
bytes (entity home number) = entity_map ∷ (spelled home ++ number ∷ [])
bytes (capability holder target rights) = capability_map ∷ holder ∷ target ∷ rights ∷ []
bytes (arrow from to) = arrow_map ∷ (spelled from ++ spelled to)

-- form alone: a number may be any byte, and the table judges it
abbrev pub Lawful : Entry → Type 0
Lawful (compartment name) = LawfulName name
Lawful (entity home number) = LawfulName home
Lawful (capability holder target rights) = Unit {0}
Lawful (arrow from to) = LawfulName from × LawfulName to

-- a sheet is its records, one after another
abbrev pub written : List Entry → List ℕ
written = flat_map bytes
