-- The bits of numbers, as tests.
use Rattle.std.proofs.Common.{◌≡◌, ℕ, zero, suc, ◌-◌, ◌*◌, ◌/◌, ◌%◌, ◌^◌, ◌<◌, ◌≤◌, Bool, true, false, not, ◌&&◌, ◌||◌, eqb, ap, ⊎_elim, arith}
use lib.Bits.{bit_and, bit_or}
use Rattle.std.specs.Int.{bit_at}
use Rattle.std.proofs.Math.Nat.{pow-succ'}
use Rattle.std.proofs.lemmas.Bool.{cases_eq}
use Rattle.std.proofs.lemmas.Bool.Decides.{nat_tests}
use Rattle.std.proofs.lemmas.Nat.{pow_pos}
use Rattle.std.proofs.lemmas.Nat.Bits.{and_pow, bit_at-lt, bit_at-pow_other, bit_at-pow_same, bit_at-suc, bit_at-zero, bit_at_above, bit_at_and, bit_at_lowest, bit_at_ones, bit_at_or}
use Rattle.access.specs.Rights.{bit}

abbrev is_one : ℕ → Bool
is_one x = eqb x 1

-- bits past the width are 0
pub bit_past : (width n k : ℕ) → n < 2 ^ width → width ≤ k → bit n k ≡ false
bit_past width n k small past = ap is_one (bit_at_above n width k small past)

-- the bits above the lowest are those of the half
pub bit_half : (n k : ℕ) → bit n (suc k) ≡ bit (n / 2) k
bit_half n k = ap is_one (bit_at-suc n k)

pub bit_lowest : (n : ℕ) → bit n 0 ≡ eqb (n % 2) 1
bit_lowest n = grind arith

pub bit_zero : (k : ℕ) → bit 0 k ≡ false
bit_zero k = grind arith

-- the largest number of a width has all its bits
pub bit_largest : (width k : ℕ) → k < width → bit (2 ^ width - 1) k ≡ true
bit_largest width k below = ap is_one (bit_at_ones width k below)

-- a bit of two numbers' common part stands if it stands in both
pub bit-bit_and : (a b k : ℕ) → bit (bit_and a b) k ≡ (bit a k && bit b k)
bit-bit_and a b k = grind (arith, bit_at_and)

pub bit-bit_or : (a b k : ℕ) → bit (bit_or a b) k ≡ (bit a k || bit b k)
bit-bit_or a b k = grind (arith, bit_at_or)

-- a power of two has one bit
pub bit_power : (j k : ℕ) → bit (2 ^ j) k ≡ eqb k j
bit_power j k = grind (arith, bit_at-pow_same, bit_at-pow_other)

-- a bit stands if the number has something in common with that power of two
pub bit_in_common : (n k : ℕ) → not (eqb (bit_and n (2 ^ k)) 0) ≡ bit n k
bit_in_common n k = grind (arith, and_pow n k)

pub power_double : (k : ℕ) → 2 ^ suc k ≡ 2 * 2 ^ k
power_double = pow-succ' 2

-- two numbers of a width that are not the same differ in a bit
differ : (width a b : ℕ) → a < 2 ^ width → b < 2 ^ width → (a ≡ b → ⊥)
    → (k : ℕ) × (k < width) × (bit_at a k ≡ bit_at b k → ⊥)
differ zero a b small_a small_b more = absurd (more (omega arith))
differ (suc width) a b small_a small_b more = ⊎_elim (above (differ width (a / 2) (b / 2))) lowest (cases_eq (a % 2) (b % 2))
  where
    lowest : (a % 2 ≡ b % 2 → ⊥) → (k : ℕ) × (k < suc width) × (bit_at a k ≡ bit_at b k → ⊥)
    lowest e = (0, omega arith, λ same. omega (arith, bit_at_lowest a, bit_at_lowest b))

    above : (a / 2 < 2 ^ width → b / 2 < 2 ^ width → (a / 2 ≡ b / 2 → ⊥) → (k : ℕ) × (k < width) × (bit_at (a / 2) k ≡ bit_at (b / 2) k → ⊥))
        → a % 2 ≡ b % 2 → (k : ℕ) × (k < suc width) × (bit_at a k ≡ bit_at b k → ⊥)
    above in_half e =
        let double = power_double width in
        let (k, below, other) = in_half (omega arith) (omega arith) (omega arith) in
        (suc k, omega arith, λ same. other (omega (arith, bit_at-suc a k, bit_at-suc b k)))

-- a number that is not 0 has a bit that stands
pub some_bit : (width n : ℕ) → n < 2 ^ width → (n ≡ 0 → ⊥) → (k : ℕ) × (k < width) × (bit n k ≡ true)
some_bit width n small more =
    let (k, below, other) = differ width n 0 small (pow_pos width) more in
    (k, below, grind (arith, nat_tests, bit_at-lt n k, bit_at-zero k, other))

-- a number that is not the largest of its width has a bit that does not stand
pub missing_bit : (width n : ℕ) → n < 2 ^ width → (n ≡ 2 ^ width - 1 → ⊥) → (k : ℕ) × (k < width) × (bit n k ≡ false)
missing_bit width n small less =
    let (k, below, other) = differ width n (2 ^ width - 1) small (omega arith) less in
    (k, below, grind (arith, nat_tests, bit_at-lt n k, bit_at_ones width k, other))
