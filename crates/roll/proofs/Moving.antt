-- What is left when one holder's triples are dropped from a list.
use Rattle.std.proofs.Common.{◌≡◌, ℕ, ◌+◌, ◌<◌, ◌≤◌, Bool, true, false, cond, not, ◌&&◌, ◌||◌, eqb, List, [], ◌∷◌, length, get_or, take, set, filter, sym, refl, ap, ◌∙◌, subst, add-one, arith}
use Rattle.std.proofs.lemmas.List.Filters.{FiltersInPlace, FiltersInPlace-more_no, FiltersInPlace-more_set}
use Rattle.std.proofs.lemmas.List.{get_or_default, take-take}
use Rattle.std.proofs.lemmas.Bool.{and_left, and_right, eq-eqb, false≢true, ne_eqb, not_from_false, not_from_true, true≢false}
use Rattle.access.specs.Rules.Sets.{same, added, dropped}
use Rattle.access.proofs.Rules.Counting.{members_added}
use Rattle.access.proofs.Rules.Membership.{same_parts}
use Rattle.store.specs.declared.triple.Triple.{Triple}
use Rattle.store.specs.Contents.{Same}
use Rattle.roll.specs.Lists.{listed, Apart, blank}
use Rattle.roll.specs.Facts.{apart_ranged, apart_rest}
use Rattle.store.specs.Ranges.{at}
use Rattle.roll.proofs.Apartness.{apart_gone, apart_take}

-- the records of other holders
abbrev pub others : ℕ → List Triple → List Triple
others holder = filter (λ x. not (eqb x.holder holder))

-- one record is looked at
module _ (holder : ℕ) (x : Triple) (xs : List Triple) where
  looked_at : (is : Bool) → eqb x.holder holder ≡ is → Same (listed (others holder xs)) (dropped holder (listed xs))
      → Same (listed (cond (not is) (x ∷ others holder xs) (others holder xs))) (dropped holder (at x added (listed xs)))
  looked_at is e before h t r =
      by_holder is (λ s. ap (λ (k : ℕ). eqb k holder) (same_parts x.holder x.target x.rights h t r s).0 ∙ e)
    where
      mine : (s held gone : Bool) → (s ≡ true → gone ≡ true) → (held && not gone) ≡ ((s || held) && not gone)
      mine true held true only = and_right held false refl
      mine true held false only = absurd (false≢true (only refl))
      mine false held gone only = refl

      theirs : (s held gone : Bool) → (s ≡ true → gone ≡ false) → (s || (held && not gone)) ≡ ((s || held) && not gone)
      theirs true held true only = absurd (true≢false (only refl))
      theirs true held false only = refl
      theirs false held gone only = refl

      by_holder : (is : Bool) → (at x same h t r ≡ true → eqb h holder ≡ is)
          → listed (cond (not is) (x ∷ others holder xs) (others holder xs)) h t r ≡ dropped holder (at x added (listed xs)) h t r
      by_holder true only = before h t r ∙ mine (at x same h t r) (listed xs h t r) (eqb h holder) only
      by_holder false only =
          ap (λ (held : Bool). at x same h t r || held) (before h t r)
          ∙ theirs (at x same h t r) (listed xs h t r) (eqb h holder) only

  still_apart : (size : ℕ) (is : Bool) → Same (listed (others holder xs)) (dropped holder (listed xs))
      → Apart size (x ∷ xs) → Apart size (others holder xs) → Apart size (cond (not is) (x ∷ others holder xs) (others holder xs))
  still_apart size true before apart more = more
  still_apart size false before apart more =
      let (lh, lt, lr) = apart_ranged size x xs apart in
      let new : at x (listed (others holder xs)) ≡ false =
      before x.holder x.target x.rights
      ∙ and_left _ _ (apart_gone size (x ∷ xs) xs x (sym (add-one (length xs))) (λ h t r. refl) apart) in
      members_added size x.holder x.target x.rights (listed (others holder xs)) (lh, lt, omega arith) new
      ∙ ap (λ (n : ℕ). n + 1) more
      ∙ add-one (length (others holder xs))

pub listed_others : (holder : ℕ) (xs : List Triple) → Same (listed (others holder xs)) (dropped holder (listed xs))
listed_others holder [] = λ h t r. refl
listed_others holder (x ∷ xs) = looked_at holder x xs (eqb x.holder holder) refl (listed_others holder xs)

pub apart_others : (size holder : ℕ) (xs : List Triple) → Apart size xs → Apart size (others holder xs)
apart_others size holder [] apart = apart
apart_others size holder (x ∷ xs) apart =
    still_apart holder x xs size (eqb x.holder holder) (listed_others holder xs) apart
    (apart_others size holder xs (apart_rest size x xs apart))

-- the records of other holders move to the front: those before `place` have been looked at, and `count` have moved
abbrev pub Moving : ℕ → List Triple → List Triple → ℕ → ℕ → Type 0
Moving holder = FiltersInPlace (λ x. not (eqb x.holder holder))

module _ (holder : ℕ) (xs ys : List Triple) (count place : ℕ) (moving : Moving holder xs ys count place)
    (below : place < length ys) where
  read : get_or ys place blank ≡ get_or ys place (get_or ys place blank)
  read = get_or_default ys place blank (get_or ys place blank) below

  pub moves_other : ((get_or ys place blank).holder ≡ holder → ⊥)
      → Moving holder xs (set ys count (get_or ys place blank)) (count + 1) (place + 1)
  moves_other other = FiltersInPlace-more_set moving below (not_from_false _ (ne_eqb _ holder other)) read

  pub passes_own : (get_or ys place blank).holder ≡ holder → Moving holder xs ys count (place + 1)
  passes_own own = FiltersInPlace-more_no moving below (not_from_true _ (eq-eqb _ holder own)) read

-- no triple comes to stand twice by that
pub apart_moving : (size holder len place count : ℕ) (xs ys : List Triple) → Apart size (take len xs) → place ≤ len
    → Moving holder xs ys count place → Apart size (take count ys)
apart_moving size holder len place count xs ys apart so_far moving =
    subst (Apart size) (sym moving.front)
    (apart_others size holder (take place xs)
    (subst (Apart size) (take-take place len xs so_far) (apart_take size place (take len xs) apart)))

pub listed_moved : (holder len place count : ℕ) (xs ys : List Triple) → len ≡ place → Moving holder xs ys count place
    → Same (listed (take count ys)) (dropped holder (listed (take len xs)))
listed_moved holder len place count xs ys end moving h t r =
    ap (λ (l : List Triple). listed l h t r) moving.front
    ∙ listed_others holder (take place xs) h t r
    ∙ sym (ap (λ (n : ℕ). dropped holder (listed (take n xs)) h t r) end)
