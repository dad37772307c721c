-- A name is found exactly where it stands whole, the first time.
use Rattle.std.proofs.Common.{◌≡◌, ℕ, zero, suc, ◌≤◌, Bool, true, false, cond, List, [], ◌∷◌, Some, None, Option, sym, refl, ap, subst, arith}
use Rattle.std.specs.List.{slice_get}
use Rattle.std.specs.Str.{bytes_eq}
use Rattle.std.proofs.lemmas.Slice.Eq.{bytes_eq-Decides}
use Rattle.access.specs.History.Names.{next, numbered}
use Rattle.access.proofs.Facts.{none_some}

-- where a name was found, or that it was not, among the rest
abbrev Found : List ℕ → List (List ℕ) → Option ℕ → Type 0
Found name names (Some n) = (slice_get names n ≡ Some name) × ((k : ℕ) → slice_get names k ≡ Some name → n ≤ k)
Found name names None = (k : ℕ) → slice_get names k ≡ Some name → ⊥

-- another name does not stand first
not_first : (name other : List ℕ) → bytes_eq name other ≡ false → ◌≡◌ {A = Option (List ℕ)} (Some other) (Some name) → ⊥
not_first name other differ at = grind (arith, bytes_eq-Decides)

one_more : (name other : List ℕ) (names : List (List ℕ)) (b : Bool) (o : Option ℕ) → bytes_eq name other ≡ b
    → Found name names o
    → Found name (other ∷ names) (cond b (Some 0) (next o))
one_more name other names true o is rest = (ap Some (sym ((bytes_eq-Decides name other).0 is)), λ k at. omega arith)
one_more name other names false None is rest = by_place
  where
    by_place : (k : ℕ) → slice_get (other ∷ names) k ≡ Some name → ⊥
    by_place zero at = not_first name other is at
    by_place (suc k) at = rest k at
one_more name other names false (Some n) is (at_n, least) = grind (arith, not_first)

finds : (name : List ℕ) (names : List (List ℕ)) → Found name names (numbered name names)
finds name [] = λ k at. none_some None name refl at
finds name (other ∷ names) =
    one_more name other names (bytes_eq name other) (numbered name names) refl (finds name names)

pub found : (name : List ℕ) (names : List (List ℕ)) (n : ℕ) → numbered name names ≡ Some n
    → (slice_get names n ≡ Some name) × ((k : ℕ) → slice_get names k ≡ Some name → n ≤ k)
found name names n is = subst (Found name names) is (finds name names)

pub missing : (name : List ℕ) (names : List (List ℕ)) → numbered name names ≡ None → (k : ℕ) → slice_get names k ≡ Some name → ⊥
missing name names is = subst (Found name names) is (finds name names)

pub not_missing : (name : List ℕ) (names : List (List ℕ)) → ((k : ℕ) → slice_get names k ≡ Some name → ⊥)
    → numbered name names ≡ None
not_missing name names nowhere = grind (arith, finds)
