-- What it means that a list's triples are apart.
use Rattle.std.specs.Prelude.{◌≡◌, ℕ, ◌<◌, List, length, slice_index_or}
use Rattle.store.specs.declared.triple.Triple.{Triple}
use Rattle.store.specs.Ranges.{at, InRange}
use Rattle.roll.specs.Lists.{Apart, blank}

-- none stands twice
abbrev pub NoneTwice : Type 0
NoneTwice =
    (size : ℕ) (xs : List Triple) (i j : ℕ) → Apart size xs → i < length xs → j < length xs
    → slice_index_or xs i blank ≡ slice_index_or xs j blank → i ≡ j

-- and none is out of range
abbrev pub AllInRange : Type 0
AllInRange = (size : ℕ) (xs : List Triple) (i : ℕ) → Apart size xs → i < length xs → at (slice_index_or xs i blank) (InRange size)
