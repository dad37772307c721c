-- Words of 32 bits, one for each set of rights: bit r stands if a capability with the rights r does.
use Rattle.std.specs.Prelude.{◌≡◌, ℕ, zero, suc, ◌+◌, ◌^◌, ◌<◌, Bool, true, cond}
use Rattle.access.specs.declared.right.Right.{Right}
use Rattle.access.specs.Rights.{bit, has, In}

-- the number whose bits below n are as the test says
abbrev pub collected : (ℕ → Bool) → ℕ → ℕ
collected test zero = 0
collected test (suc n) = collected test n + cond (test n) (2 ^ n) 0

-- the word in which every set with this right stands
abbrev pub mask : Right → ℕ
mask right = collected (has right) 32

-- some set of rights that stands in the word has this right
abbrev pub InSome : Right → ℕ → Type 0
InSome right word = (rights : ℕ) × (rights < 32) × (bit word rights ≡ true) × In right rights
