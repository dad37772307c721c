-- What a store is: its size, its limit and the set of its members.
use Rattle.std.specs.Prelude.{◌≡◌, ℕ, ◌<◌, ◌≤◌, true}
use Rattle.access.specs.Rules.Sets.{Triples, none, members, HasRoom}
use Rattle.store.specs.Ranges.{InRange}

pub record Contents : Type 0 where
  pub size : ℕ
  pub limit : ℕ
  pub holds : Triples

-- how many members there are
abbrev pub count_of : Contents → ℕ
count_of c = members c.size c.holds

-- what is true of the contents of every store: size and limit are bounded, and the members keep within both
pub record Lawful (c : Contents) : Type 0 where
  pub small : c.size ≤ 128
  pub bounded : c.limit ≤ 524288
  pub ranged : (h t r : ℕ) → c.holds h t r ≡ true → InRange c.size h t r
  pub fits : count_of c ≤ c.limit

-- there are as many members as the limit, or fewer
abbrev pub IsFull : Contents → Type 0
IsFull c = count_of c ≡ c.limit

abbrev pub HasSpare : Contents → Type 0
HasSpare c = count_of c < c.limit

-- a triple is a member already, or the store is not full
abbrev pub RoomFor : Contents → ℕ → ℕ → ℕ → Type 0
RoomFor c = HasRoom c.size c.limit c.holds

-- the two sets have the same members
abbrev pub Same : Triples → Triples → Type 0
Same a b = (h t r : ℕ) → a h t r ≡ b h t r

-- there are no members
abbrev pub IsEmpty : Contents → Type 0
IsEmpty c = Same c.holds none

-- size and limit are as before, and the members are those of this set
pub record NowHolds (before after : Contents) (set : Triples) : Type 0 where
  pub size : after.size ≡ before.size
  pub limit : after.limit ≡ before.limit
  pub holds : Same after.holds set
