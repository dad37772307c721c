-- What is wrong with bytes that no record is written as.
use Rattle.std.specs.Prelude.{◌≡◌, ℕ, ◌<◌, false, List, [], ◌∷◌, ◌++◌, length, ◌≢◌}
use Rattle.sheet.specs.declared.fault.Flaw.{Flaw}
use Rattle.sheet.specs.declared.fault.Flaw.TheVariants.{UnknownMap, Cut, BadLength, BadCharacter}
use Rattle.sheet.specs.Names.{name_byte, NameBytes, LawfulLength, LawfulName}
use Rattle.sheet.specs.Entries.{Entry, Lawful, bytes, spelled, compartment_map, entity_map, capability_map, arrow_map}

-- the whole has these bytes for its front, and goes on behind them
abbrev pub Short : List ℕ → List ℕ → Type 0
Short rest whole = (more : List ℕ) × (0 < length more) × (whole ≡ rest ++ more)

-- what is wrong where a name should stand: more bytes would have made it whole, its length is none that a name has, or
-- one of its bytes is none
abbrev pub NameFlaw : Flaw → List ℕ → Type 0
NameFlaw UnknownMap rest = ⊥
NameFlaw Cut rest = (name : List ℕ) × LawfulName name × Short rest (spelled name)
NameFlaw BadLength rest = (len : ℕ) × (more : List ℕ) × (rest ≡ len ∷ more) × (LawfulLength len → ⊥)
NameFlaw BadCharacter rest =
    (len : ℕ) × (good : List ℕ) × (bad : ℕ) × (more : List ℕ) × (rest ≡ len ∷ (good ++ bad ∷ more))
    × LawfulLength len × (length good < len) × NameBytes good × (name_byte bad ≡ false)

-- what stands in a record before one of its names
pub data BeforeName : List ℕ → Type 0 where
  declaring : BeforeName (compartment_map ∷ [])
  placing : BeforeName (entity_map ∷ [])
  drawing : BeforeName (arrow_map ∷ [])
  leading : {from : List ℕ} → LawfulName from → BeforeName (arrow_map ∷ spelled from)

-- a name of a record is bad, and all that stands before it is well
abbrev pub BadName : Flaw → List ℕ → Type 0
BadName flaw rest = (front : List ℕ) × (tail : List ℕ) × BeforeName front × (rest ≡ front ++ tail) × NameFlaw flaw tail

abbrev pub NoMap : ℕ → Type 0
NoMap map = (map ≢ compartment_map) × (map ≢ entity_map) × (map ≢ capability_map) × (map ≢ arrow_map)

-- what is wrong with the bytes from a record's first on: that byte is no map, more bytes would have made the record
-- whole, or one of its names is bad
abbrev pub Flawed : Flaw → List ℕ → Type 0
Flawed UnknownMap rest = (map : ℕ) × (more : List ℕ) × (rest ≡ map ∷ more) × NoMap map
Flawed Cut rest = (0 < length rest) × ((entry : Entry) × Lawful entry × Short rest (bytes entry))
Flawed BadLength rest = BadName BadLength rest
Flawed BadCharacter rest = BadName BadCharacter rest
