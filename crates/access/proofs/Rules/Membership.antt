-- What is in a set of triples after something was added, removed or dropped.
use Rattle.std.proofs.Common.{◌≡◌, ℕ, true, false, ◌⊎◌, ◌↔◌, arith}
use Rattle.access.specs.Model.Operations.{Is}
use Rattle.access.specs.Rules.Sets.{Triples, same, added, removed, dropped}

pub same_parts : (x y z h t r : ℕ) → same x y z h t r ≡ true → Is x y z h t r
same_parts x y z h t r e = grind arith

pub same_is : (x y z h t r : ℕ) → (same x y z h t r ≡ true) ↔ Is x y z h t r
same_is x y z h t r = grind arith

-- what is said of the one triple holds of any that is the same
pub at_same : (P : ℕ → ℕ → ℕ → Type 0) (x y z h t r : ℕ) → same x y z h t r ≡ true → P x y z → P h t r
at_same P x y z h t r e = grind arith

module _ (x y z h t r : ℕ) (set : Triples) where
  pub added_is : (added x y z set h t r ≡ true) ↔ (Is x y z h t r ⊎ (set h t r ≡ true))
  added_is = grind arith

  pub removed_is : (removed x y z set h t r ≡ true) ↔ ((set h t r ≡ true) × (Is x y z h t r → ⊥))
  removed_is = grind arith

pub dropped_is : (x h t r : ℕ) (set : Triples) → (dropped x set h t r ≡ true) ↔ ((set h t r ≡ true) × (h ≡ x → ⊥))
dropped_is x h t r set = grind arith

-- the set at the triple that is added or removed, and at any other
module _ (x y z : ℕ) (set : Triples) where
  pub added_there : added x y z set x y z ≡ true
  added_there = grind arith

  pub removed_there : removed x y z set x y z ≡ false
  removed_there = grind arith

  module _ (h t r : ℕ) where
    pub added_elsewhere : (Is x y z h t r → ⊥) → added x y z set h t r ≡ set h t r
    added_elsewhere other = grind arith

    pub removed_elsewhere : (Is x y z h t r → ⊥) → removed x y z set h t r ≡ set h t r
    removed_elsewhere other = grind arith

    -- what is there already, or is not there
    pub added_again : set x y z ≡ true → added x y z set h t r ≡ set h t r
    added_again held = grind arith

    pub removed_absent : set x y z ≡ false → removed x y z set h t r ≡ set h t r
    removed_absent absent = grind arith

pub dropped_there : (x : ℕ) (set : Triples) (t r : ℕ) → dropped x set x t r ≡ false
dropped_there x set t r = grind arith

pub dropped_elsewhere : (x : ℕ) (set : Triples) (h t r : ℕ) → (h ≡ x → ⊥) → dropped x set h t r ≡ set h t r
dropped_elsewhere x set h t r other = grind arith

-- what is added where it was not, and then removed
pub removed_added : (x y z : ℕ) (set : Triples) → set x y z ≡ false → (h t r : ℕ)
    → set h t r ≡ removed x y z (added x y z set) h t r
removed_added x y z set fresh h t r = grind arith

-- what is removed where it was, and then added
pub added_removed : (x y z : ℕ) (set : Triples) → set x y z ≡ true → (h t r : ℕ)
    → added x y z (removed x y z set) h t r ≡ set h t r
added_removed x y z set held h t r = grind arith
