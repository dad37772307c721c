-- The set of the triples in a list.
use Rattle.std.specs.Prelude.{◌≡◌, ℕ, ◌<◌, false, List, [], ◌∷◌, length, Some, None, Option, slice_index_or}
use Rattle.access.specs.Rules.Sets.{Triples, none, added, members}
use Rattle.store.specs.declared.triple.Triple.{Triple}
use Rattle.store.specs.Ranges.{at}

abbrev pub listed : List Triple → Triples
listed [] = none
listed (x ∷ xs) = at x added (listed xs)

-- what is read past the end of a list
abbrev pub blank : Triple
blank = record { holder = 0; target = 0; rights = 0 }

-- the place is one where the triple stands in the list; or there is none
abbrev pub Found : List Triple → Triple → Option ℕ → Type 0
Found xs x (Some i) = (i < length xs) × (slice_index_or xs i blank ≡ x)
Found xs x None = at x (listed xs) ≡ false

-- the set has as many members of this size as the list is long: so no triple stands twice in the list, and none is out of range
abbrev pub Apart : ℕ → List Triple → Type 0
Apart size xs = members size (listed xs) ≡ length xs
