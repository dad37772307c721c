-- Rights, and sets of them.
use Rattle.std.specs.Prelude.{◌≡◌, ℕ, ◌+◌, ◌/◌, ◌%◌, ◌^◌, ◌≤◌, Bool, true, cond, ◌↔◌, ◌==◌, bit_and}
use Rattle.access.specs.declared.right.Right.{Right}
use Rattle.access.specs.declared.right.Right.TheVariants.{Read, Write, Grant, Create, Store}

-- bit k of a number
abbrev pub bit : ℕ → ℕ → Bool
bit n k = n / 2 ^ k % 2 == 1

-- the bit that stands for a right in a set of rights
abbrev pub position : Right → ℕ
position Read = 0
position Write = 1
position Grant = 2
position Create = 3
position Store = 4

-- a set of rights is the sum of its rights' values
abbrev pub value : Right → ℕ
value right = 2 ^ position right

abbrev pub all_rights : ℕ
all_rights = value Read + value Write + value Grant + value Create + value Store

abbrev pub has : Right → ℕ → Bool
has right rights = bit rights (position right)

-- the right is in the set
abbrev pub In : Right → ℕ → Type 0
In right rights = has right rights ≡ true

-- all rights of the first set are in the second
abbrev pub Within : ℕ → ℕ → Type 0
Within part whole = (right : Right) → In right part → In right whole

-- the rights that are in both sets
abbrev pub common : ℕ → ℕ → ℕ
common = bit_and

abbrev pub share : Right → ℕ → ℕ
share right rights = cond (has right rights) (value right) 0

-- a set is the sum of the values of its rights
abbrev pub SetsAreSums : Type 0
SetsAreSums =
    (rights : ℕ) → rights ≤ all_rights
    → rights ≡ share Read rights + share Write rights + share Grant rights + share Create rights + share Store rights

-- a right is in what two sets have in common exactly if it is in both
abbrev pub CommonIsBoth : Type 0
CommonIsBoth = (a b : ℕ) (right : Right) → In right (common a b) ↔ (In right a × In right b)

-- a set is within another exactly if it has nothing that they do not have in common
abbrev pub WithinIsCommon : Type 0
WithinIsCommon = (part whole : ℕ) → part ≤ all_rights → Within part whole ↔ (common part whole ≡ part)
