-- The bytes that an input is read for are enough.
use Rattle.std.proofs.Common.{◌≡◌, ℕ, ◌+◌, ◌-◌, ◌<◌, ◌≤◌, ◌↔◌, List, get_or, take, drop, arith, rules, length-take}
use Rattle.std.specs.List.{AllByRecursion}
use Rattle.std.proofs.ByRecursion.{All-get_or}
use Rattle.std.proofs.lemmas.List.{drop-drop, drop-take, get_or_past, get_or-take, take-take}
use Rattle.protocol.specs.Inputs.{Cut, Alike, Enough, readable, cut_calls, sheet_length, sheet_of, calls_of}

-- a part that lies within the first n elements
part : (xs : List ℕ) (i k n : ℕ) → i + k ≤ n → take k (drop i (take n xs)) ≡ take k (drop i xs)
part xs i k n h = grind (arith, drop-take i (n - i) xs, take-take k (n - i) (drop i xs))

-- a byte, or the 0 for one that is missing
byte_at : (bytes : List ℕ) → AllByRecursion (λ b. b < 256) bytes → (i : ℕ) → get_or bytes i 0 < 256
byte_at bytes all i = search (rules, arith, All-get_or, get_or_past)

module _ (n : ℕ) (bytes : List ℕ) (all : AllByRecursion (λ b. b < 256) bytes) (many : readable ≤ n) where
  at : (i : ℕ) → i < 5 → get_or (take n bytes) i 0 ≡ get_or bytes i 0
  at i h = grind (arith, get_or-take)

  long : sheet_length (take n bytes) ≡ sheet_length bytes
  long = grind (arith, at)

  longest : sheet_length bytes ≤ 65535
  longest = omega (arith, byte_at bytes all)

  cut : Cut (take n bytes) ↔ Cut bytes
  cut = grind (arith, length-take n bytes, long, longest)

  sheet : sheet_of (take n bytes) ≡ sheet_of bytes
  sheet = rw long (part bytes 5 (sheet_length bytes) n (omega (arith, longest)))

  calls : calls_of (take n bytes) ≡ calls_of bytes
  unfolding cut_calls
  calls =
      simp (long, drop-drop)
      (part bytes (5 + sheet_length bytes) 60000 n (omega (arith, longest)))

  alike : Alike (take n bytes) bytes
  alike = (cut, grind (arith, at), grind (arith, at), sheet, calls)

pub enough : Enough readable
enough bytes all = alike readable bytes all (omega arith)
