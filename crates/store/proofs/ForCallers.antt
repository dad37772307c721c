-- The laws that callers of a store may rely on, in one place.
use Rattle.std.proofs.Common.{◌≡◌, ℕ, ◌<◌, true, sym, ap, ◌∙◌, ⊎_elim, arith}
use Rattle.std.proofs.lemmas.Bool.{both_ways, cases_lt}
use Rattle.access.specs.Rights.{bit}
use Rattle.access.proofs.Bits.{bit_past, bit_zero}
use Rattle.access.proofs.Rules.Counting.{members_added, members_le, members_removed, members_same}
use Rattle.access.proofs.Rules.Membership.{added_again, added_is, dropped_is, removed_absent, removed_is}
use Rattle.store.specs.Laws.{
  AddedIs,
  RemovedIs,
  DroppedIs,
  OneMore,
  NoneMore,
  OneFewer,
  NoneFewer,
  SameNumber,
  AtMostAll,
  EmptyWord,
  RightInWord,
}
use Rattle.access.proofs.WordBits.{no_bits}

pub added_says : AddedIs
added_says x y z set h t r = added_is x y z h t r set

pub removed_says : RemovedIs
removed_says x y z set h t r = removed_is x y z h t r set

pub dropped_says : DroppedIs
dropped_says x set h t r = dropped_is x h t r set

pub one_more : OneMore
one_more size x y z set (lx, ly, lz) new = members_added size x y z set (lx, ly, omega arith) new

pub none_more : NoneMore
none_more x y z set held h t r = added_again x y z set h t r held

pub one_fewer : OneFewer
one_fewer size x y z set (lx, ly, lz) held = members_removed size x y z set (lx, ly, omega arith) held

pub none_fewer : NoneFewer
none_fewer x y z set absent h t r = removed_absent x y z set h t r absent

pub same_number : SameNumber
same_number size a b same = members_same size b a (λ h t r _. same h t r)

pub at_most_all : AtMostAll
at_most_all = members_le

pub empty_word : EmptyWord
empty_word word set h t (small, bits) = (
  λ zero_word r. sym (bits r) ∙ ap (λ (w : ℕ). bit w r) zero_word ∙ bit_zero r,
  λ nothing. no_bits word small (λ r. bits r ∙ nothing r),
)

pub right_in_word : RightInWord
right_in_word word set h t right (small, bits) = (
  λ (r, _, stands, has). (r, sym (bits r) ∙ stands, has),
  λ (r, held, has). (r, below r (bits r ∙ held), bits r ∙ held, has),
)
  where
    below : (r : ℕ) → bit word r ≡ true → r < 32
    below r stands =
        ⊎_elim (λ less. less) (λ past. absurd (both_ways (bit word r) (bit_past 32 word r small past) stands)) (cases_lt r 32)
