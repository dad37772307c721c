-- Small facts about options, answers, equivalences, triples, and functions that are changed at one place.
use Rattle.std.proofs.Common.{◌≡◌, ℕ, cond, eqb, ◌↔◌, Some, None, Ok, Err, Option, arith}
use Rattle.refusal.specs.declared.Refusal.{Refusal}
use Rattle.access.specs.Model.Operations.{Is}
use Rattle.access.specs.History.Calls.{Answer}

module _ {X : Type 0} where
  pub one_some : (o : Option X) (x y : X) → o ≡ Some x → o ≡ Some y → x ≡ y
  one_some o x y p q = cc

  pub none_some : (o : Option X) (x : X) → o ≡ None → o ≡ Some x → ⊥
  none_some o x p q = grind arith

  -- a function that is changed at one place
  pub changed_elsewhere : (x y : ℕ) (new old : X) → (x ≡ y → ⊥) → cond (eqb x y) new old ≡ old
  changed_elsewhere x y new old differ = grind arith

  pub changed_there : (x y : ℕ) (new old : X) → x ≡ y → cond (eqb x y) new old ≡ new
  changed_there x y new old is = grind arith

pub onward : {P Q R : Type 0} → P ↔ Q → Q ↔ R → P ↔ R
onward = grind arith

pub one_refusal : (r q : Refusal) → ◌≡◌ {A = Answer} (Err r) (Err q) → r ≡ q
one_refusal r q e = cc

pub ok_err : (u : Unit {0}) (r : Refusal) → ◌≡◌ {A = Answer} (Ok u) (Err r) → ⊥
ok_err u r e = grind arith

-- what is so of a triple is so of the same triple
pub at_triple : (P : ℕ → ℕ → ℕ → Type 0) (x y z h t r : ℕ) → Is x y z h t r → P x y z → P h t r
at_triple = grind arith
