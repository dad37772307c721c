use Rattle.std.proofs.Common.{◌≡◌, ℕ, zero, suc, ◌<◌, true, List, [], ◌∷◌, length, get_or, sym, refl, ap, subst, add-one, arith}
use Rattle.std.proofs.lemmas.Bool.{both_ways}
use Rattle.store.specs.declared.triple.Triple.{Triple}
use Rattle.store.specs.Ranges.{at}
use Rattle.roll.specs.Facts.{apart_rest}
use Rattle.roll.specs.Laws.{NoneTwice}
use Rattle.roll.specs.Lists.{listed, Apart, blank}
use Rattle.roll.proofs.Apartness.{apart_at, apart_gone}
use Rattle.roll.proofs.Listing.{listed_at}
use Rattle.roll.proofs.laws.apart.Goals as goal

-- the first of a list does not stand further back
first-once : (size : ℕ) (x : Triple) (xs : List Triple) (i : ℕ) → Apart size (x ∷ xs) → i < length xs → x ≡ get_or xs i blank → ⊥
first-once size x xs i apart below is =
    both_ways (at x (listed xs))
    (apart_gone size (x ∷ xs) xs x (sym (add-one (length xs))) (λ h t r. refl) apart)
    (subst (λ (y : Triple). at y (listed xs) ≡ true) (sym is) (listed_at xs i below))

none_twice : NoneTwice
none_twice size [] i j apart li lj is = absurd (omega arith)
none_twice size (x ∷ xs) zero zero apart li lj is = refl
none_twice size (x ∷ xs) zero (suc j) apart li lj is = absurd (first-once size x xs j apart (omega arith) is)
none_twice size (x ∷ xs) (suc i) zero apart li lj is = absurd (first-once size x xs i apart (omega arith) (sym is))
none_twice size (x ∷ xs) (suc i) (suc j) apart li lj is =
    ap suc (none_twice size xs i j (apart_rest size x xs apart) (omega arith) (omega arith) is)

pub returns : goal.returns
returns c = record { none_twice = none_twice; all_in_range = apart_at }
