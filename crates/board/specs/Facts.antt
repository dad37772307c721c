-- A board is a lawful store. The law is given by the last of these facts, so that its proof stands beside the definitions.
use Rattle.std.specs.Prelude.{◌≡◌, ℕ, ◌*◌, ◌≤◌, true, List}
use Rattle.std.proofs.Common.{arith}
use Rattle.std.proofs.lemmas.Nat.{mul-le}
use Rattle.std.proofs.lemmas.Bool.{and_parts}
use Rattle.access.specs.Rules.Sets.{members}
use Rattle.access.proofs.Rules.Counting.{members_le}
use Rattle.board.specs.Boards.{marked}
use Rattle.store.specs.Contents.{Lawful}
use Rattle.store.specs.Ranges.{InRange, inside, inside_ranged}

pub marked_ranged : (size : ℕ) (words : List ℕ) (h t r : ℕ) → marked size words h t r ≡ true → InRange size h t r
marked_ranged size words h t r is = inside_ranged size h t r (and_parts (inside size h t r) _ is).0

pub marked_fits : (size : ℕ) (words : List ℕ) → members size (marked size words) ≤ size * size * 32
marked_fits size words = members_le size (marked size words)

pub limit_bounded : (size : ℕ) → size ≤ 128 → size * size * 32 ≤ 524288
limit_bounded size few = omega (arith, mul-le size size 128 128 few few)

pub marked_lawful : (size : ℕ) (words : List ℕ) → size ≤ 128
    → Lawful record { size = size; limit = size * size * 32; holds = marked size words }
marked_lawful size words small = record {
  small = small;
  bounded = limit_bounded size small;
  ranged = marked_ranged size words;
  fits = marked_fits size words;
}
