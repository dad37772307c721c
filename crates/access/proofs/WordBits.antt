-- The bits of a word: none past its width, and which stand after one was set or cleared.
use Rattle.std.proofs.Common.{◌≡◌, ℕ, ◌-◌, ◌^◌, ◌<◌, ◌≤◌, false, not, ◌&&◌, ◌||◌, eqb, w32, arith, lit<}
use lib.Bits.{bit_and, bit_or}
use Rattle.std.proofs.lemmas.Bool.Decides.{nat_tests}
use Rattle.std.proofs.lemmas.Nat.{one_shl}
use Rattle.std.proofs.lemmas.Nat.Bits.{bit_at-lt, bit_at-zero, bit_at_above, bit_at_and, bit_at_clear_other, bit_at_clear_same, same_from_bits_below}
use Rattle.access.specs.Rights.{bit}
use Rattle.access.proofs.Bits.{bit-bit_or, bit_past, bit_power}

-- a word has no bits past its width
pub bit_past_31 : (word k : ℕ) → word < 2 ^ 32 → 32 ≤ k → bit word k ≡ false
bit_past_31 word k small past = bit_past 32 word k small past

pub bit_set : (word k r : ℕ) → bit (bit_or word (2 ^ k)) r ≡ (eqb r k || bit word r)
bit_set word k r = rw (bit-bit_or, bit_power) (grind arith)

pub bit_cleared : (word k r : ℕ) → word < 2 ^ 32 → k < 32
    → bit (bit_and word (4294967295 - 2 ^ k)) r ≡ (bit word r && not (eqb r k))
bit_cleared word k r small below =
    let one = one_shl k 32 below in
    let same = rw one at (bit_at_clear_same w32 word k below) in
    let other = rw one at (bit_at_clear_other w32 word k below r) in
    grind (arith, nat_tests, same, other, bit_at_and word (4294967295 - 2 ^ k) r, bit_at_above word 32 r small)

-- a word without bits is 0
pub no_bits : (word : ℕ) → word < 2 ^ 32 → ((r : ℕ) → bit word r ≡ false) → word ≡ 0
no_bits word small none =
    same_from_bits_below 32 word 0 small (lit< tt) (λ r below. grind (arith, nat_tests, none r, bit_at-lt word r, bit_at-zero r))
