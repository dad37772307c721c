-- How many members a set of triples has.
use Rattle.std.proofs.Common.{◌≡◌, ℕ, zero, suc, ◌+◌, ◌*◌, ◌/◌, ◌^◌, ◌<◌, ◌≤◌, Bool, true, false, cond, ◌⊎◌, sym, refl, ap, ◌∙◌, subst, ⊎_elim, mul_assoc, suc-mul, mul-zero, zero-mul, arith}
use lib.Count.{ones, ones-le, ones_step}
use Rattle.std.proofs.lemmas.Bool.{cases_eq}
use Rattle.access.specs.Rights.{bit}
use Rattle.access.specs.Rules.Sets.{Triples, none, added, removed, total, over, held_by, members}
use Rattle.access.specs.Model.Operations.{Is}
use Rattle.access.proofs.Bits.{bit_half, bit_lowest, power_double}
use Rattle.access.proofs.Rules.Membership.{added_elsewhere, added_removed, added_there, removed_there}

pub total_same : (f g : ℕ → ℕ) (n : ℕ) → ((k : ℕ) → k < n → g k ≡ f k) → total g n ≡ total f n
unfolding total
total_same f g zero same = refl
total_same f g (suc n) same = grind (arith, total_same f g n)

pub total_const : (f : ℕ → ℕ) (m n : ℕ) → ((k : ℕ) → k < n → f k ≡ m) → total f n ≡ n * m
unfolding total
total_const f m zero each = sym (zero-mul m)
total_const f m (suc n) each =
    omega (arith, total_const f m n (λ k l. each k (omega arith)), each n (omega arith), suc-mul n m)

pub total_le : (f : ℕ → ℕ) (m n : ℕ) → ((k : ℕ) → f k ≤ m) → total f n ≤ n * m
unfolding total
total_le f m zero each = omega (arith, zero-mul m)
total_le f m (suc n) each = omega (arith, total_le f m n each, each n, suc-mul n m)

-- a sum's first term
total_first : (f : ℕ → ℕ) (n : ℕ) → total f (suc n) ≡ f 0 + total (λ k. f (suc k)) n
unfolding total
total_first f zero = omega arith
total_first f (suc n) = omega (arith, total_first f n)

-- two sums that differ at one place
pub total_at : (f g : ℕ → ℕ) (at more n : ℕ) → at < n → g at ≡ f at + more → ((k : ℕ) → (k ≡ at → ⊥) → g k ≡ f k)
    → total g n ≡ total f n + more
unfolding total
total_at f g at more zero below there elsewhere = absurd (omega arith)
total_at f g at more (suc n) below there elsewhere =
    ⊎_elim last (earlier (λ l. total_at f g at more n l there elsewhere)) (cases_eq n at)
  where
    last : n ≡ at → total g (suc n) ≡ total f (suc n) + more
    last e =
        let before : total g n ≡ total f n = total_same f g n (λ k l. elsewhere k (omega arith)) in
        let here : g n ≡ f n + more = subst (λ (x : ℕ). g x ≡ f x + more) (sym e) there in
        omega arith

    earlier : (at < n → total g n ≡ total f n + more) → (n ≡ at → ⊥) → total g (suc n) ≡ total f (suc n) + more
    earlier before e = omega (arith, before (omega arith), elsewhere n e)

-- what a triple adds to the number of members
abbrev counted : Bool → ℕ
counted b = cond b 1 0

at_most_one : (b : Bool) → counted b ≤ 1
at_most_one = grind arith

pub members_le : (size : ℕ) (set : Triples) → members size set ≤ size * size * 32
unfolding members
members_le size set =
    omega (
      arith,
      mul_assoc size size 32,
      total_le (held_by size set) (size * 32) size
          (λ h. total_le (over set h) 32 size (λ t. total_le (λ r. counted (set h t r)) 1 32 (λ r. at_most_one (set h t r)))),
    )

-- the triples that are counted
abbrev pub Counts : ℕ → ℕ → ℕ → ℕ → Type 0
Counts size h t r = (h < size) × (t < size) × (r < 32)

pub counts_or_not : (size h t r : ℕ) → Counts size h t r ⊎ (Counts size h t r → ⊥)
counts_or_not size h t r = grind arith

-- the two sets have the same triples that are counted
abbrev pub SameCounts : ℕ → Triples → Triples → Type 0
SameCounts size a b = (h t r : ℕ) → Counts size h t r → b h t r ≡ a h t r

pub members_same : (size : ℕ) (a b : Triples) → SameCounts size a b → members size b ≡ members size a
unfolding members
members_same size a b same =
    total_same (held_by size a) (held_by size b) size
    (λ h lh. total_same (over a h) (over b h) size
    (λ t lt. total_same (λ r. counted (a h t r)) (λ r. counted (b h t r)) 32
    (λ r lr. ap counted (same h t r (lh, lt, lr)))))

-- a set that has every triple of entities below the size, or none
pub members_uniform : (size : ℕ) (set : Triples) (b : Bool) → SameCounts size (λ _ _ _. b) set
    → members size set ≡ size * (size * (32 * counted b))
unfolding members
members_uniform size set b each =
    total_const (held_by size set) (size * (32 * counted b)) size
    (λ h lh. total_const (over set h) (32 * counted b) size
    (λ t lt. total_const (λ r. counted (set h t r)) (counted b) 32
    (λ r lr. ap counted (each h t r (lh, lt, lr)))))

pub members_all : (size : ℕ) (set : Triples) → SameCounts size (λ _ _ _. true) set → members size set ≡ size * size * 32
members_all size set all = members_uniform size set true all ∙ sym (mul_assoc size size 32)

pub members_none : (size : ℕ) → members size none ≡ 0
members_none size =
    members_uniform size none false (λ h t r _. refl) ∙ ap (λ (x : ℕ). size * x) (mul-zero size) ∙ mul-zero size

module _ (size x y z : ℕ) (set : Triples) where
  -- a new triple
  pub members_added : Counts size x y z → set x y z ≡ false → members size (added x y z set) ≡ members size set + 1
  unfolding members
  members_added (lx, ly, lz) new =
      total_at (held_by size set) (held_by size more) x 1 size lx
      (total_at (over set x) (over more x) y 1 size ly
      (total_at (λ r. counted (set x y r)) (λ r. counted (more x y r)) z 1 32 lz
      one_more
      (λ r d. elsewhere x y r (λ (_, _, e). d e)))
      (λ t d. total_same (λ r. counted (set x t r)) (λ r. counted (more x t r)) 32
      (λ r _. elsewhere x t r (λ (_, e, _). d e))))
      (λ h d. total_same (over set h) (over more h) size
      (λ t _. total_same (λ r. counted (set h t r)) (λ r. counted (more h t r)) 32
      (λ r _. elsewhere h t r (λ (e, _, _). d e))))
    where
      more : Triples
      more = added x y z set

      elsewhere : (h t r : ℕ) → (Is x y z h t r → ⊥) → counted (more h t r) ≡ counted (set h t r)
      elsewhere h t r other = ap counted (added_elsewhere x y z set h t r other)

      one_more : counted (more x y z) ≡ counted (set x y z) + 1
      one_more = ap counted (added_there x y z set) ∙ sym (ap (λ (b : Bool). counted b + 1) new)

  -- one that is not counted
  pub members_added_outside : (Counts size x y z → ⊥) → members size (added x y z set) ≡ members size set
  members_added_outside outside = grind (arith, members_same)

  pub members_added_le : members size (added x y z set) ≤ members size set + 1
  members_added_le = grind (arith, members_added, members_same)

pub members_removed : (size x y z : ℕ) (set : Triples) → Counts size x y z → set x y z ≡ true
    → members size set ≡ members size (removed x y z set) + 1
members_removed size x y z set counts held =
    members_same size (added x y z (removed x y z set)) set (λ h t r _. sym (added_removed x y z set held h t r))
    ∙ members_added size x y z (removed x y z set) counts (removed_there x y z set)

-- the bits that stand in a number
pub bits_counted : (width n : ℕ) → n < 2 ^ width → total (λ k. counted (bit n k)) width ≡ ones n
bits_counted zero n small =
    let fits = ones-le 0 n small in
    omega (arith, total_le (λ k. counted (bit n k)) 1 0 (λ k. at_most_one (bit n k)))
bits_counted (suc width) n small = grind (arith, bits_counted width (n / 2), bit_half, bit_lowest, ones_step, power_double, total_first, total_same)

-- how many capabilities a word stands for
pub over_ones : (set : Triples) (h t word : ℕ) → word < 2 ^ 32 → ((r : ℕ) → bit word r ≡ set h t r) → over set h t ≡ ones word
over_ones set h t word small bits =
    total_same (λ r. counted (bit word r)) (λ r. counted (set h t r)) 32 (λ r _. ap counted (sym (bits r)))
    ∙ bits_counted 32 word small
