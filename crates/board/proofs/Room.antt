-- When a board is full.
use Rattle.std.proofs.Common.{◌≡◌, ℕ, zero, suc, ◌+◌, ◌*◌, ◌/◌, ◌%◌, ◌<◌, ◌≤◌, Bool, true, false, List, length, get_or, take, ap, subst, ◌∙◌, inl, inr, ⊎_elim, arith, length-take}
use Rattle.std.proofs.lemmas.Nat.{div-add-mod', div_below, mod_below, mul-add-lt}
use Rattle.std.proofs.lemmas.Bool.{and_from, and_right, cases_Bool}
use Rattle.std.proofs.lemmas.Bool.Decides.{nat_tests}
use Rattle.std.specs.List.{AllWithin, HoldsAt}
use Rattle.std.specs.Bool.{MatchBool}
use Rattle.std.proofs.lemmas.List.{get_or-take}
use Rattle.access.specs.Rights.{bit}
use Rattle.access.specs.Rules.Sets.{added, members, HasRoom}
use Rattle.access.proofs.Rules.Counting.{Counts, members_added, members_all, members_le}
use Rattle.board.specs.Boards.{marked, AllBits, MissingBit}
use Rattle.store.specs.Ranges.{InRange, inside}

-- a word that lacks a bit leaves room
room_left : (size : ℕ) (words : List ℕ) (k : ℕ) → k < size * size → MissingBit (get_or words k 0)
    → members size (marked size words) < size * size * 32
room_left size words k below (r, lr, clear) =
    let some : 0 < size = positive size below in
    let lh : k / size < size = div_below k size size some below in
    let lt : k % size < size = mod_below k size some in
    let new : marked size words (k / size) (k % size) r ≡ false =
    and_right (inside size (k / size) (k % size) r) _
    (ap (λ (i : ℕ). bit (get_or words i 0) r) (div-add-mod' k size) ∙ clear) in
    omega (
      arith,
      members_added size (k / size) (k % size) r (marked size words) (lh, lt, lr) new,
      members_le size (added (k / size) (k % size) r (marked size words)),
    )
  where
    positive : (n : ℕ) → k < n * n → 0 < n
    positive zero l = absurd (omega arith)
    positive (suc n) l = omega arith

-- words that have all bits leave none
no_room : (size : ℕ) (words : List ℕ) → ((k : ℕ) → k < size * size → AllBits (get_or words k 0))
    → members size (marked size words) ≡ size * size * 32
no_room size words full = members_all size (marked size words) stands
  where
    stands : (h t r : ℕ) → Counts size h t r → marked size words h t r ≡ true
    stands h t r (lh, lt, lr) =
        let place : h * size + t < size * size = omega (arith, mul-add-lt h size t size lh lt) in
        let ranged : inside size h t r ≡ true = grind (arith, nat_tests) in
        and_from _ _ ranged (full (h * size + t) place r lr)

-- all words have all bits, or one does not
module _ (size n : ℕ) (words : List ℕ) (whole : size * size ≤ length words) (all : n ≡ size * size) where
  abbrev used : List ℕ
  used = take n words

  pub full_or_room : (full : Bool) → MatchBool full (AllWithin AllBits used 0 (length used)) ((k : ℕ) × (k < length used) × HoldsAt MissingBit used k)
      → MatchBool full (members size (marked size words) ≡ size * size * 32) (members size (marked size words) < size * size * 32)
  full_or_room true full = no_room size words (λ k below.
      subst AllBits (get_or-take n words k 0 (omega arith)) (full k 0 (omega arith) (omega (arith, length-take n words))))
  full_or_room false (k, below, missing) =
      let inside : k < size * size = omega (arith, length-take n words) in
      room_left size words k inside (subst MissingBit (get_or-take n words k 0 (omega arith)) (missing 0))

-- a board is full only where it has every triple in range
pub room_for : (size : ℕ) (words : List ℕ) (h t r : ℕ) → InRange size h t r
    → HasRoom size (size * size * 32) (marked size words) h t r
room_for size words h t r (lh, lt, lr) = ⊎_elim inl new (cases_Bool (marked size words h t r))
  where
    new : marked size words h t r ≡ false → HasRoom size (size * size * 32) (marked size words) h t r
    new e =
        let more = members_added size h t r (marked size words) (lh, lt, omega arith) e in
        inr (λ full. omega (arith, members_le size (added h t r (marked size words))))
