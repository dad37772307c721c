-- What callers of a store may rely on beyond its rules: the numbers of its faults, sets with one triple more or fewer, how many
-- members they have, and words against members.
use Rattle.std.specs.Prelude.{◌≡◌, ℕ, ◌+◌, ◌*◌, ◌^◌, ◌<◌, ◌≤◌, true, false, ◌⊎◌, ◌↔◌, ◌≢◌}
use Rattle.refusal.specs.Numbers.{number}
use Rattle.access.specs.declared.right.Right.{Right}
use Rattle.access.specs.Model.Operations.{Is}
use Rattle.access.specs.Rights.{bit, In}
use Rattle.access.specs.Words.{InSome}
use Rattle.access.specs.Rules.Sets.{Triples, added, removed, dropped, members}
use Rattle.store.specs.declared.fault.StoreFault.TheVariants.{OutOfRange, Full}
use Rattle.store.specs.Contents.{Same}
use Rattle.store.specs.Ranges.{InRange}
use Rattle.store.specs.Refusals.{refusal}

-- a store refuses with the numbers 2 and 8
abbrev pub FaultNumbers : Type 0
FaultNumbers = (number (refusal OutOfRange) ≡ 2) × (number (refusal Full) ≡ 8)

-- a triple is in the set after one was added if it is that one or was there before
abbrev pub AddedIs : Type 0
AddedIs =
    (x y z : ℕ) (set : Triples) (h t r : ℕ) → (added x y z set h t r ≡ true) ↔ (Is x y z h t r ⊎ (set h t r ≡ true))

-- after one was removed, if it was there before and is not that one
abbrev pub RemovedIs : Type 0
RemovedIs =
    (x y z : ℕ) (set : Triples) (h t r : ℕ)
    → (removed x y z set h t r ≡ true) ↔ ((set h t r ≡ true) × (Is x y z h t r → ⊥))

-- after a holder was dropped, if it was there before and has another holder
abbrev pub DroppedIs : Type 0
DroppedIs = (x : ℕ) (set : Triples) (h t r : ℕ) → (dropped x set h t r ≡ true) ↔ ((set h t r ≡ true) × (h ≢ x))

-- a new triple makes the members one more, and one that is there already changes nothing
abbrev pub OneMore : Type 0
OneMore =
    (size x y z : ℕ) (set : Triples) → InRange size x y z → set x y z ≡ false
    → members size (added x y z set) ≡ members size set + 1

abbrev pub NoneMore : Type 0
NoneMore = (x y z : ℕ) (set : Triples) → set x y z ≡ true → Same (added x y z set) set

-- a member that is removed makes them one fewer, and one that is not there changes nothing
abbrev pub OneFewer : Type 0
OneFewer =
    (size x y z : ℕ) (set : Triples) → InRange size x y z → set x y z ≡ true
    → members size set ≡ members size (removed x y z set) + 1

abbrev pub NoneFewer : Type 0
NoneFewer = (x y z : ℕ) (set : Triples) → set x y z ≡ false → Same (removed x y z set) set

-- sets with the same members have as many, and none has more than there are triples in range
abbrev pub SameNumber : Type 0
SameNumber = (size : ℕ) (a b : Triples) → Same a b → members size a ≡ members size b

abbrev pub AtMostAll : Type 0
AtMostAll = (size : ℕ) (set : Triples) → members size set ≤ size * size * 32

-- the word shows what the holder has over the target
abbrev pub Shows : ℕ → Triples → ℕ → ℕ → Type 0
Shows word set h t = (word < 2 ^ 32) × ((r : ℕ) → bit word r ≡ set h t r)

-- a word is 0 exactly if the holder has nothing over the target
abbrev pub EmptyWord : Type 0
EmptyWord = (word : ℕ) (set : Triples) (h t : ℕ) → Shows word set h t → (word ≡ 0) ↔ ((r : ℕ) → set h t r ≡ false)

-- some set in a word has a right exactly if the holder has a capability over the target with that right
abbrev pub RightInWord : Type 0
RightInWord =
    (word : ℕ) (set : Triples) (h t : ℕ) (right : Right) → Shows word set h t
    → InSome right word ↔ ((r : ℕ) × (set h t r ≡ true) × In right r)
