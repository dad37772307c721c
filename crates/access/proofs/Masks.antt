-- A word and a right's mask have a bit in common exactly if some set that stands in the word has the right.
use Rattle.std.proofs.Common.{◌≡◌, ℕ, zero, suc, ◌^◌, ◌<◌, Bool, true, false, not, ◌&&◌, eqb, ◌↔◌, sym, refl, ◌∙◌, arith}
use lib.Bits.{bit_and, and_le_l}
use Rattle.std.proofs.lemmas.Bool.{and_parts, eqb-false, not-true}
use Rattle.std.proofs.lemmas.Bool.Decides.{Decides-below_and}
use Rattle.access.specs.declared.right.Right.{Right}
use Rattle.access.specs.declared.right.Right.TheVariants.{Read, Write, Grant, Create, Store}
use Rattle.access.specs.Rights.{bit, has}
use Rattle.access.specs.Words.{mask, InSome}
use Rattle.access.proofs.Bits.{bit-bit_and, bit_zero, some_bit}

abbrev agree : Bool → Bool → Bool
agree true b = b
agree false b = not b

agree_same : (a b : Bool) → agree a b ≡ true → a ≡ b
agree_same = grind arith

same_agree : (a b : Bool) → a ≡ b → agree a b ≡ true
same_agree = grind arith

abbrev masked : Right → ℕ → Bool
masked right zero = true
masked right (suc n) = agree (bit (mask right) n) (has right n) && masked right n

-- by computation
all_masked : (right : Right) → masked right 32 ≡ true
all_masked Read = refl
all_masked Write = refl
all_masked Grant = refl
all_masked Create = refl
all_masked Store = refl

pub bit_mask : (right : Right) (rights : ℕ) → rights < 32 → bit (mask right) rights ≡ has right rights
bit_mask right =
    (Decides-below_and (λ k. agree (bit (mask right) k) (has right k)) (λ k. bit (mask right) k ≡ has right k) (masked right)
    (λ k. (agree_same (bit (mask right) k) (has right k), same_agree (bit (mask right) k) (has right k))) refl (λ _. refl) 32).0 (all_masked right)

pub in_some : (right : Right) (word : ℕ) → word < 2 ^ 32
    → (not (eqb (bit_and word (mask right)) 0) ≡ true) ↔ InSome right word
in_some right word small = (there, back)
  where
    there : not (eqb (bit_and word (mask right)) 0) ≡ true → InSome right word
    there e =
        let less = and_le_l word (mask right) in
        let (rights, below, stands) = some_bit 32 (bit_and word (mask right)) (omega arith) (eqb-false _ 0 (not-true _ e)) in
        let (in_word, in_mask) = and_parts _ _ (sym (bit-bit_and word (mask right) rights) ∙ stands) in
        (rights, below, in_word, sym (bit_mask right rights below) ∙ in_mask)

    back : InSome right word → not (eqb (bit_and word (mask right)) 0) ≡ true
    back (rights, below, in_word, has_right) =
        grind (arith, bit-bit_and word (mask right) rights, bit_mask right rights, bit_zero rights)
