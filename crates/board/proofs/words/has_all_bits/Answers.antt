use Rattle.std.proofs.Common.{◌≡◌, ℕ, Bool, true, false, eqb, refl, ap, ◌∙◌, arith}
use Rattle.std.proofs.lemmas.Bool.{eqb-false, eqb-true}
use Rattle.std.specs.Bool.{MatchBool}
use Rattle.access.specs.Rights.{bit}
use Rattle.access.proofs.Bits.{bit_largest, missing_bit}
use Rattle.board.specs.Boards.{AllBits, MissingBit}
use Rattle.board.proofs.words.has_all_bits.Goals as goal

pub returns : goal.returns
returns c = by_test (eqb c.args.word 4294967295) refl
  where
    by_test : (full : Bool) → eqb c.args.word 4294967295 ≡ full → MatchBool full (AllBits c.args.word) (MissingBit c.args.word)
    by_test true e = λ r below. ap (λ (w : ℕ). bit w r) (eqb-true _ _ e) ∙ bit_largest 32 r below
    by_test false e = missing_bit 32 c.args.word (omega arith) (eqb-false _ _ e)
