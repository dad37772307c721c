-- What a refused accept tells is there to tell.
use Rattle.std.proofs.Common.{◌≡◌, ℕ, zero, suc, ◌<◌, ◌≤◌, ◌⊎◌, sym, ◌∙◌, subst, inl, inr, ⊎_elim, arith}
use Rattle.std.proofs.lemmas.Bool.{cases_eq, cases_lt}
use Rattle.access.specs.Chains.{Chain, here, step}
use Rattle.access.specs.Model.States.{Connected}
use Rattle.access.specs.Model.Layouts.{Lives, state}
use Rattle.access.specs.Model.Confinement.{Separate, Flow}
use Rattle.access.specs.Rules.Views.{View, layout}
use Rattle.access.specs.Rules.Telling.{
  Joined,
  Grouped,
  LowestOf,
  Strays,
  FirstStray,
  Unarrowed,
  FirstUnarrowed,
  TellsTruly,
}
use Rattle.access.proofs.Chaining.{first}
use Rattle.access.proofs.Facts.{one_some}

-- a number of some kind is not without a lowest one
lowest : (P : ℕ → Type 0) → ((m : ℕ) → P m → ((k : ℕ) → P k → m ≤ k) → ⊥) → (n : ℕ) → P n → ⊥
lowest P none n = below (suc n) n (omega arith)
  where
    below : (bound k : ℕ) → k < bound → P k → ⊥
    below zero k less p = omega arith
    below (suc bound) k less p =
        none k p (λ j q. ⊎_elim (λ lower. absurd (below bound j (omega arith) q)) (λ higher. higher) (cases_lt j k))

swapped : (v : View) (x y : ℕ) → Connected (state (layout v)) x y → Connected (state (layout v)) y x
swapped = grind arith

-- connected entities are in one group
regrouped : (v : View) (x y k A B : ℕ) → Lives (layout v) x A → Lives (layout v) y B → Connected (state (layout v)) x y
    → Grouped v x k → Grouped v y k
regrouped = grind (arith, first)

-- where none strays, connected entities share a compartment
separate_if : (v : View) → ((e : ℕ) → Strays v e → ⊥) → Separate (layout v)
separate_if v none x y A B at_x at_y c =
    ⊎_elim (λ e. e)
    (λ differ. absurd (lowest (Grouped v x) (split differ) x ((A, at_x), (A, at_x), here)))
    (cases_eq A B)
  where
    split : (A ≡ B → ⊥) → (m : ℕ) → Grouped v x m → ((k : ℕ) → Grouped v x k → m ≤ k) → ⊥
    split differ m with_m least =
        let (M, at_m) = with_m.1 in
        let least_y : (k : ℕ) → Grouped v y k → m ≤ k =
        λ k with_k. least k (regrouped v y x k B A at_y at_x (swapped v x y c) with_k)
        in
        let lowest_y : LowestOf v y m = (regrouped v x y m A B at_x at_y c with_m, least_y) in
        none x (m, A, M, (with_m, least), at_x, at_m, λ e. none y (m, B, M, lowest_y, at_y, at_m, λ e'. differ (e ∙ sym e')))

-- where connected entities share a compartment, groups do
grouped_home : (v : View) (x y A B : ℕ) → Separate (layout v) → Lives (layout v) x A → Lives (layout v) y B
    → Chain (Joined v) x y → A ≡ B
grouped_home v x y A B apart at_x at_y here = one_some (v.home x) A B at_x at_y
grouped_home v x y A B apart at_x at_y (step {y = m} chain ((M, at_m), _, c)) =
    grouped_home v x m A M apart at_x at_m chain ∙ apart m y M B at_m at_y c

no_stray : (v : View) → Separate (layout v) → (e : ℕ) → FirstStray v e → ⊥
no_stray = grind (arith, grouped_home)

flow_if : (v : View) → ((A B : ℕ) → Unarrowed v A B → ⊥) → Flow (layout v)
flow_if v none A B steps = grind arith

-- where no pair comes first, there is none
no_first : (v : View) → ((A B : ℕ) → FirstUnarrowed v A B → ⊥) → (A B : ℕ) → Unarrowed v A B → ⊥
no_first v none A B there = lowest (λ A. (B : ℕ) × Unarrowed v A B) first_compartment A (B, there)
  where
    order : (m n C D : ℕ) → m ≤ C → ((k : ℕ) → Unarrowed v m k → n ≤ k) → Unarrowed v C D → (m < C) ⊎ ((m ≡ C) × (n ≤ D))
    order m n C D le least u =
        ⊎_elim (λ is. inr (is, least D (subst (λ (x : ℕ). Unarrowed v x D) (sym is) u))) (λ other. inl (omega arith)) (cases_eq m C)

    first_compartment : (m : ℕ) → (B : ℕ) × Unarrowed v m B → ((k : ℕ) → (B : ℕ) × Unarrowed v k B → m ≤ k) → ⊥
    first_compartment m (B, u) least =
        lowest (Unarrowed v m) (λ n here least_n. none m n (here, λ C D u'. order m n C D (least C (D, u')) least_n u')) B u

no_pair : (v : View) → Flow (layout v) → (A B : ℕ) → FirstUnarrowed v A B → ⊥
no_pair = grind arith

one_entity : (v : View) (e other : ℕ) → FirstStray v e → FirstStray v other → e ≡ other
one_entity v e other (strays, least) (strays', least') =
    let a = least other strays' in let b = least' e strays in omega arith

one_pair : (A B C D : ℕ) → (A < C) ⊎ ((A ≡ C) × (B ≤ D)) → (C < A) ⊎ ((C ≡ A) × (D ≤ B)) → (A ≡ C) × (B ≡ D)
one_pair = grind arith

pub tells_truly : TellsTruly
tells_truly = record {
  entity = λ v. (no_stray v, λ none. separate_if v (lowest (Strays v) (λ e strays least. none e (strays, least))));
  pair = λ v. (no_pair v, λ none. flow_if v (no_first v none));
  one_entity = one_entity;
  one_pair = λ v A B C D (there, least) (there', least'). one_pair A B C D (least C D there') (least' A B there);
}
