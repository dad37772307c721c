-- What a roll means.
use Rattle.std.specs.Prelude.{◌≡◌, ℕ, ◌≤◌, List, take}
use Rattle.roll.specs.declared.Roll.{Roll}
use Rattle.store.specs.declared.triple.Triple.{Triple}
use Rattle.store.specs.Contents.{Contents}
use Rattle.store.specs.Ranges.{LawfulSize}
use Rattle.roll.specs.Lists.{listed}

-- the memory that it lies in
abbrev pub memory_of : Roll → List Triple
memory_of roll = roll.records.now

-- the records that are in use
abbrev pub used : Roll → List Triple
used roll = take roll.len (memory_of roll)

-- its members are the triples in use
abbrev pub contents_of : Roll → Contents
contents_of roll = record { size = roll.size; limit = roll.limit; holds = listed (used roll) }

-- it has this size and this limit
abbrev pub Measures : Roll → ℕ → ℕ → Type 0
Measures roll size limit = ((contents_of roll).size ≡ size) × ((contents_of roll).limit ≡ limit)

-- a size that a store can be set up with, and as many records as a roll may have
abbrev pub Suits : ℕ → ℕ → Type 0
Suits size records = LawfulSize size × (1 ≤ records) × (records ≤ 4096)
