use Rattle.std.proofs.Common.{ℕ, get_or, ap, arith}
use Rattle.board.proofs.Marking.{marked_word}
use Rattle.board.proofs.as_store.BoardStore.word.Goals as goal

pub returns-clause-bits : goal.returns-clause-bits
returns-clause-bits c r =
    let board = c.args.self.now in
    marked_word board.size board.words.now c.args.holder c.args.target _ r (omega arith) (omega arith)
    (ap (λ (i : ℕ). get_or board.words.now i 0) c.place.ensures.place) (omega arith)
