-- Lists in which no triple stands twice.
use Rattle.std.proofs.Common.{◌≡◌, ℕ, ◌+◌, ◌-◌, ◌<◌, ◌≤◌, Bool, true, false, not, ◌&&◌, List, [], ◌∷◌, ◌++◌, length, get_or, take, drop, set, sym, ap, ◌∙◌, subst, ⊎_elim, arith}
use Rattle.std.proofs.lemmas.List.{append_assoc, append-nil, length-append, length_push, length-set, length-take, take-append-drop, take_more_set}
use Rattle.std.proofs.lemmas.Bool.{cases_Bool}
use Rattle.access.specs.Rules.Sets.{same, added, removed, members}
use Rattle.access.proofs.Rules.Counting.{members_added, members_added_le, members_same}
use Rattle.access.proofs.Rules.Membership.{added_again, removed_added}
use Rattle.store.specs.declared.triple.Triple.{Triple}
use Rattle.store.specs.Contents.{Same}
use Rattle.roll.specs.Lists.{listed, Apart, blank}
use Rattle.roll.specs.Facts.{apart_fewer, listed_le, listed_ranged}
use Rattle.store.specs.Ranges.{at, InRange}
use Rattle.roll.proofs.Listing.{listed_at, listed_push, listed_swapped}

pub apart_at : (size : ℕ) (xs : List Triple) (i : ℕ) → Apart size xs → i < length xs → at (get_or xs i blank) (InRange size)
apart_at size xs i apart below = listed_ranged size xs apart _ _ _ (listed_at xs i below)

pub listed_outside : (size : ℕ) (xs : List Triple) → Apart size xs → (h t r : ℕ) → ((h < size) × (t < size) → ⊥)
    → listed xs h t r ≡ false
listed_outside size xs apart h t r out =
    ⊎_elim
    (λ held. let (lh, lt, _) = listed_ranged size xs apart h t r held in absurd (out (lh, lt)))
    (λ e. e)
    (cases_Bool (listed xs h t r))

-- a list with one triple more
pub apart_push : (size : ℕ) (xs : List Triple) (x : Triple) → Apart size xs → at x (InRange size) → at x (listed xs) ≡ false
    → Apart size (xs ++ x ∷ [])
apart_push size xs x apart (lh, lt, lr) new =
    members_same size (at x added (listed xs)) (listed (xs ++ x ∷ [])) (λ h t r _. listed_push xs x h t r)
    ∙ members_added size x.holder x.target x.rights (listed xs) (lh, lt, omega arith) new
    ∙ ap (λ (n : ℕ). n + 1) apart
    ∙ sym (length_push xs x)

-- the front of a list
listed_append_le : (size : ℕ) (xs ys : List Triple) → members size (listed (xs ++ ys)) ≤ members size (listed xs) + length ys
listed_append_le size xs [] = omega (arith, ap (λ (l : List Triple). members size (listed l)) (append-nil xs))
listed_append_le size xs (y ∷ ys) =
    omega (
      arith,
      ap (λ (l : List Triple). members size (listed l)) (append_assoc xs (y ∷ []) ys),
      listed_append_le size (xs ++ y ∷ []) ys,
      members_same size (at y added (listed xs)) (listed (xs ++ y ∷ [])) (λ h t r _. listed_push xs y h t r),
      members_added_le size y.holder y.target y.rights (listed xs),
    )

apart_front : (size : ℕ) (xs ys : List Triple) → Apart size (xs ++ ys) → Apart size xs
apart_front size xs ys apart = omega (arith, listed_le size xs, listed_append_le size xs ys, length-append xs ys)

pub apart_take : (size n : ℕ) (xs : List Triple) → Apart size xs → Apart size (take n xs)
apart_take size n xs apart =
    apart_front size (take n xs) (drop n xs) (subst (Apart size) (sym (take-append-drop n xs)) apart)

-- the record behind those in use is written
module _ (records : List Triple) (len : ℕ) (x : Triple) (fits : len < length records) where
  pub listed_pushed : Same (listed (take (len + 1) (set records len x))) (at x added (listed (take len records)))
  listed_pushed h t r =
      ap (λ (l : List Triple). listed l h t r) (take_more_set records len x fits) ∙ listed_push (take len records) x h t r

  pub apart_pushed : (size : ℕ) → Apart size (take len records) → at x (InRange size) → at x (listed (take len records)) ≡ false
      → Apart size (take (len + 1) (set records len x))
  apart_pushed size apart ranged new =
      subst (Apart size) (sym (take_more_set records len x fits)) (apart_push size (take len records) x apart ranged new)

-- a list that lacks one triple, and is otherwise the same
module _ (size : ℕ) (xs ys : List Triple) (x : Triple) (longer : length xs ≡ length ys + 1)
    (also_x : Same (listed xs) (at x added (listed ys))) (apart : Apart size xs) where
  -- had it stood there twice, there would be too few members
  pub apart_gone : at x (listed ys) ≡ false
  apart_gone = ⊎_elim twice (λ e. e) (cases_Bool (at x (listed ys)))
    where
      twice : at x (listed ys) ≡ true → at x (listed ys) ≡ false
      twice held =
          absurd (omega (
            arith,
            members_same size (at x added (listed ys)) (listed xs) (λ h t r _. also_x h t r),
            members_same size (listed ys) (at x added (listed ys))
                (λ h t r _. added_again x.holder x.target x.rights (listed ys) h t r held),
            listed_le size ys,
          ))

  pub listed_fewer : Same (listed ys) (at x removed (listed xs))
  listed_fewer h t r =
      removed_added x.holder x.target x.rights (listed ys) apart_gone h t r
      ∙ sym (ap (λ (held : Bool). held && not (at x same h t r)) (also_x h t r))

-- the last record in use is written over another, and is no longer in use itself
module _ (size : ℕ) (records : List Triple) (len place : ℕ) (fits : len ≤ length records) (below : place < len)
    (apart : Apart size (take len records)) where
  abbrev pub left : List Triple
  left = take (len - 1) (set records place (get_or records (len - 1) blank))

  also_gone : Same (listed (take len records)) (at (get_or (take len records) place blank) added (listed left))
  also_gone =
      subst (λ (n : ℕ). Same (listed (take n records)) (at (get_or (take n records) place blank) added (listed left))) whole
      (listed_swapped records (len - 1) place (omega arith) (omega arith))
    where
      whole : len - 1 + 1 ≡ len
      whole = omega arith

  one_longer : length (take len records) ≡ length left + 1
  one_longer =
      omega (
        arith,
        length-take len records,
        length-take (len - 1) (set records place (get_or records (len - 1) blank)),
        length-set records place (get_or records (len - 1) blank),
      )

  pub apart_left : Apart size left
  apart_left = apart_fewer size (take len records) left (get_or (take len records) place blank) one_longer also_gone apart

  pub listed_left : Same (listed left) (at (get_or (take len records) place blank) removed (listed (take len records)))
  listed_left = listed_fewer size (take len records) left (get_or (take len records) place blank) one_longer also_gone apart
