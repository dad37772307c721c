-- What the reader's records say, and where they stand.
use Rattle.std.specs.Prelude.{◌≡◌, ℕ, ◌+◌, List, length, take, drop}
use Rattle.sheet.specs.declared.record.Name.{Name}
use Rattle.sheet.specs.declared.record.Record.{Record}
use Rattle.sheet.specs.declared.record.Content.{Content}
use Rattle.sheet.specs.declared.record.Content.TheVariants.{Compartment, Entity, Capability, Arrow}
use Rattle.sheet.specs.Entries.{Entry, compartment, entity, capability, arrow}

abbrev pub text : Name → List ℕ
text name = name.bytes.now

-- what a record with this content says
abbrev pub entry_of : Content → Entry
entry_of (Compartment name) = compartment (text name)
entry_of (Entity home number) = entity (text home) number
entry_of (Capability holder target rights) = capability holder target rights
entry_of (Arrow from to) = arrow (text from) (text to)

abbrev pub said : Record → Entry
said found = entry_of found.content

-- a name is the part of the sheet that begins at its place
abbrev pub PartAt : List ℕ → ℕ → Name → Type 0
PartAt sheet place name = (name.place ≡ place) × (text name ≡ take (length (text name)) (drop place sheet))

-- the names of a record that begins at a place of a sheet tell their own: a name stands behind the map and its own
-- length, and a second name behind the first and a length again
abbrev pub NamesAt : List ℕ → ℕ → Content → Type 0
NamesAt sheet at (Compartment name) = PartAt sheet (at + 2) name
NamesAt sheet at (Entity home number) = PartAt sheet (at + 2) home
NamesAt sheet at (Capability holder target rights) = Unit {0}
NamesAt sheet at (Arrow from to) = PartAt sheet (at + 2) from × PartAt sheet (at + 3 + length (text from)) to

-- a record that begins at a place of a sheet tells that place, and those of its names
abbrev pub Located : List ℕ → ℕ → Record → Type 0
Located sheet at found = (found.place ≡ at) × NamesAt sheet at found.content
