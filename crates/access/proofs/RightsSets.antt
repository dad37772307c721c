-- Sets of rights, as sums and as bits.
use Rattle.std.proofs.Common.{◌≡◌, ℕ, zero, suc, ◌+◌, ◌≤◌, Bool, true, cond, not, ◌&&◌, eqb, ◌↔◌, sym, ap, ◌∙◌, subst, arith}
use lib.Bits.{bit_and, and_le_l}
use Rattle.access.specs.declared.right.Right.{Right}
use Rattle.access.specs.declared.right.Right.TheVariants.{Read, Write, Grant, Create, Store}
use Rattle.access.specs.Rights.{all_rights, has, position, value, In, Within, common, share}
use Rattle.access.proofs.Bits.{bit-bit_and, bit_in_common}

-- a right is in a set exactly if the set has something in common with its value
pub has_by_value : (right : Right) (rights : ℕ) → has right rights ≡ not (eqb (bit_and rights (value right)) 0)
has_by_value right rights = sym (bit_in_common rights (position right))

pub common_both : (a b : ℕ) (right : Right) → In right (common a b) ↔ (In right a × In right b)
common_both a b right = grind (arith, bit-bit_and)

pub common_within : (a b : ℕ) → Within (common a b) a
common_within a b right in_common = ((common_both a b right).0 in_common).0

abbrev summed : ℕ → ℕ
summed rights = share Read rights + share Write rights + share Grant rights + share Create rights + share Store rights

abbrev sums : ℕ → Bool
sums zero = true
sums (suc n) = eqb n (summed n) && sums n

-- by computation
pub set_sum : (rights : ℕ) → rights ≤ all_rights → rights ≡ summed rights
set_sum rights small = grind arith

same_has : (part whole : ℕ) → Within part whole → (right : Right) → has right (common part whole) ≡ has right part
same_has part whole within right = grind (arith, bit-bit_and)

pub within_common : (part whole : ℕ) → part ≤ all_rights → Within part whole ↔ (common part whole ≡ part)
within_common part whole small =
    (there, λ same right in_part. ((common_both part whole right).0 (subst (In right) (sym same) in_part)).1)
  where
    there : Within part whole → common part whole ≡ part
    there within =
        let less = and_le_l part whole in
        let shared : (right : Right) → share right (common part whole) ≡ share right part =
        λ right. ap (λ (b : Bool). cond b (value right) 0) (same_has part whole within right)
        in
        set_sum (common part whole) (omega arith)
        ∙ omega (arith, shared Read, shared Write, shared Grant, shared Create, shared Store)
        ∙ sym (set_sum part small)
