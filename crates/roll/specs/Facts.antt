-- A roll is a lawful store. The law is given by the last of these facts, so that its proof stands beside the definitions.
use Rattle.std.specs.Prelude.{◌≡◌, ℕ, ◌+◌, ◌≤◌, true, List, [], ◌∷◌, length, take, refl}
use Rattle.std.proofs.Common.{sym, ⊎_elim, add-one, arith, length-take}
use Rattle.std.proofs.lemmas.Bool.{false≢true, or_cases}
use Rattle.access.specs.Rules.Sets.{added, members, same}
use Rattle.access.proofs.Rules.Counting.{counts_or_not, members_added_le, members_added_outside, members_none, members_same}
use Rattle.access.proofs.Rules.Membership.{at_same}
use Rattle.store.specs.declared.triple.Triple.{Triple}
use Rattle.store.specs.Contents.{Lawful, Same}
use Rattle.roll.specs.Lists.{listed, Apart}
use Rattle.store.specs.Ranges.{at, InRange}

-- a list has no more members than elements
pub listed_le : (size : ℕ) (xs : List Triple) → members size (listed xs) ≤ length xs
listed_le size [] = omega (arith, members_none size)
listed_le size (x ∷ xs) =
    omega (arith, listed_le size xs, members_added_le size x.holder x.target x.rights (listed xs))

-- a list that lacks one triple, and is otherwise the same
pub apart_fewer : (size : ℕ) (xs ys : List Triple) (x : Triple) → length xs ≡ length ys + 1
    → Same (listed xs) (at x added (listed ys)) → Apart size xs → Apart size ys
apart_fewer size xs ys x longer also apart =
    omega (
      arith,
      members_same size (at x added (listed ys)) (listed xs) (λ h t r _. also h t r),
      members_added_le size x.holder x.target x.rights (listed ys),
      listed_le size ys,
    )

pub apart_rest : (size : ℕ) (x : Triple) (xs : List Triple) → Apart size (x ∷ xs) → Apart size xs
apart_rest size x xs = apart_fewer size (x ∷ xs) xs x (sym (add-one (length xs))) (λ h t r. refl)

pub apart_ranged : (size : ℕ) (x : Triple) (xs : List Triple) → Apart size (x ∷ xs) → at x (InRange size)
apart_ranged size x xs apart =
    ⊎_elim
    (λ (lh, lt, lr). (lh, lt, omega arith))
    (λ outside. absurd (omega (
      arith,
      members_added_outside size x.holder x.target x.rights (listed xs) outside,
      listed_le size xs,
    )))
    (counts_or_not size x.holder x.target x.rights)

pub listed_ranged : (size : ℕ) (xs : List Triple) → Apart size xs → (h t r : ℕ) → listed xs h t r ≡ true → InRange size h t r
listed_ranged size [] apart h t r held = absurd (false≢true held)
listed_ranged size (x ∷ xs) apart h t r held =
    ⊎_elim
    (λ is. at_same (InRange size) x.holder x.target x.rights h t r is (apart_ranged size x xs apart))
    (listed_ranged size xs (apart_rest size x xs apart) h t r)
    (or_cases (at x same h t r) (listed xs h t r) held)

pub listed_fits : (size len limit : ℕ) (xs : List Triple) → len ≤ limit → members size (listed (take len xs)) ≤ limit
listed_fits size len limit xs within = omega (arith, listed_le size (take len xs), length-take len xs)

pub limit_bounded : (limit : ℕ) → limit ≤ 4096 → limit ≤ 524288
limit_bounded limit short = omega arith

pub listed_lawful : (size len limit : ℕ) (xs : List Triple) → size ≤ 128 → limit ≤ 4096 → len ≤ limit → Apart size (take len xs)
    → Lawful record { size = size; limit = limit; holds = listed (take len xs) }
listed_lawful size len limit xs small short within apart = record {
  small = small;
  bounded = limit_bounded limit short;
  ranged = listed_ranged size (take len xs) apart;
  fits = listed_fits size len limit xs within;
}
