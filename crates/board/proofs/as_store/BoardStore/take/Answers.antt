use Rattle.std.proofs.Common.{arith}
use Rattle.access.specs.Rules.Sets.{removed}
use Rattle.store.specs.Ranges.{at}
use Rattle.board.proofs.Marking.{becomes, marked_taken, now_holds}
use Rattle.board.proofs.as_store.BoardStore.take.Goals as goal

pub returns-clause-removes : goal.returns-clause-removes
returns-clause-removes c =
    let board = c.args.self.now in
    let new = c.change.new.self in
    let triple = c.args.triple in
    let size = c.change.ensures.size in
    becomes board new (at triple removed) _ _ c.change.result c.change.ensures.range c.change.ensures.changes c.change.ensures.keeps size
    (λ (lh, lt, lr) changes.
    now_holds board new _ _ size changes.written
    (marked_taken board.size board.words.now board.whole triple.holder triple.target lh lt triple.rights changes.word (changes.such.0 (omega arith))))
