-- The sums that a count makes.
use denote.Param.Members.{Mut}
use Rattle.std.proofs.Common.{◌≡◌, ℕ, zero, suc, ◌+◌, ◌<◌, ◌≤◌, Bool, true, false, cond, List, map, sum, sym, ap, ◌∙◌, subst, refl, ⊎_elim, add-one, arith, lit≤}
use Rattle.std.specs.Bool.{⊤}
use Rattle.std.specs.Fn.{Called}
use Rattle.std.specs.Iterator.{Drains}
use Rattle.std.specs.Iterator.Adapters.{map_callee, map_source}
use Rattle.std.specs.Iterator.Runs.{EachRunFrom}
use Rattle.std.specs.List.{fold, range_with_len}
use Rattle.std.specs.declared.iter.Map.{Map}
use Rattle.std.specs.declared.ops.Range.{Range}
use Rattle.std.proofs.lemmas.Bool.{cases_eq}
use Rattle.std.proofs.iter.Yields.{nat_range_steps}
use Rattle.std.proofs.lemmas.Iterator.{maps, YieldsList, YieldsList-from_map, YieldsList-from_range}
use Rattle.std.proofs.lemmas.Iterator.Consumers.{fits_from_yields_list, sum_from_yields_List}
use Rattle.std.proofs.lemmas.List.FromFn.{sum_by-map-range_with_len_more}
use Rattle.access.specs.Rules.Sets.{Triples, total, over, held_by}
use Rattle.access.proofs.Rules.Counting.{total_le}

sum_total : (f : ℕ → ℕ) (n : ℕ) → sum (map f (range_with_len 0 n)) ≡ total f n
unfolding total
sum_total f zero = refl
sum_total f (suc n) =
    ap (λ (k : ℕ). sum (map f (range_with_len 0 k))) (sym (add-one n))
    ∙ sum_by-map-range_with_len_more (λ x. x) f 0 n n (omega arith)
    ∙ ap (λ (k : ℕ). k + f n) (sum_total f n)

-- a sum over fewer numbers is no larger
pub total_below : (f : ℕ → ℕ) (m n : ℕ) → m ≤ n → total f m ≤ total f n
unfolding total
total_below f m zero le =
    let none : m ≡ 0 = omega arith in
    omega (arith, ap (total f) none)
total_below f m (suc n) le =
    ⊎_elim (λ e. omega (arith, ap (total f) e)) (λ other. omega (arith, total_below f m n (omega arith))) (cases_eq m (suc n))

-- the iterator gives what f gives of each number below n
module _ {F : Type 0} {g : Mut F (ℕ × Unit {0}) ℕ} {s : Map (Range ℕ) F} {p : F} (f : ℕ → ℕ) (n : ℕ)
    (source : map_source s ≡ record { start = 0; end = n }) (callee : map_callee s ≡ p)
    (calls : (x r : ℕ) (q : F) → Called g p (x, tt) r q → (q ≡ p) × (r ≡ f x)) where
  each : YieldsList (maps nat_range_steps g) (λ r. r) s (map f (range_with_len 0 n))
  each = YieldsList-from_map g f (YieldsList-from_range 0 n n source (omega arith)) callee calls

  pub sum_below : (r : ℕ) → ((xs : List ℕ) × (⊤ → Drains (maps nat_range_steps g) s xs) × (r ≡ fold (λ a x. a + x) 0 xs)) → r ≡ total f n
  sum_below r ran = sum_from_yields_List s r ran each ∙ sum_total f n

  pub fits_below : (top : ℕ) → total f n < top → EachRunFrom (maps nat_range_steps g) s (λ q. fold (λ a x. a + x) 0 q.items < top)
  fits_below top below = fits_from_yields_list s top each (subst (λ (k : ℕ). k < top) (sym (sum_total f n)) below)

-- one holder has at most all sets of rights over each target
pub held_few : (size : ℕ) (set : Triples) (h : ℕ) → size ≤ 128 → held_by size set h ≤ 4096
held_few size set h small =
    let each = total_le (over set h) 32 size (λ t. omega (arith, total_le (λ r. cond (set h t r) 1 0) 1 32 (λ r. one (set h t r)))) in
    omega arith
  where
    one : (b : Bool) → cond b 1 0 ≤ 1
    one true = lit≤ tt
    one false = lit≤ tt
