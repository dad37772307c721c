-- The kinds of record, and their maps.
use Rattle.std.specs.Prelude.{◌≡◌, ℕ, Result, MatchResult}
use Rattle.sheet.specs.declared.fault.Flaw.{Flaw}
use Rattle.sheet.specs.declared.fault.Flaw.TheVariants.{UnknownMap}
use Rattle.sheet.specs.declared.reader.kind.Kind.{Kind}
use Rattle.sheet.specs.declared.reader.kind.Kind.TheVariants.{Compartment, Entity, Capability, Arrow}
use Rattle.sheet.specs.Entries.{compartment_map, entity_map, capability_map, arrow_map}
use Rattle.sheet.specs.Flaws.{NoMap}

-- the byte that a record of this kind begins with
abbrev pub map_of : Kind → ℕ
map_of Compartment = compartment_map
map_of Entity = entity_map
map_of Capability = capability_map
map_of Arrow = arrow_map

-- a byte is read as the kind that has it for its map, or it is no map
abbrev pub KindRead : ℕ → Result Kind Flaw → Type 0
KindRead map r = MatchResult r (λ kind. map_of kind ≡ map) (λ flaw. (flaw ≡ UnknownMap) × NoMap map)
