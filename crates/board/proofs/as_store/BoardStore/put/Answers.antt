use Rattle.std.proofs.Common.{arith}
use Rattle.board.proofs.Marking.{marked_put, now_holds}
use Rattle.board.proofs.Room.{room_for}
use Rattle.board.proofs.as_store.BoardStore.put.Goals as goal

pub returns-clause-room : goal.returns-clause-room
returns-clause-room c =
    let board = c.args.self.now in
    room_for board.size board.words.now c.args.triple.holder c.args.triple.target c.args.triple.rights c.in_ok-change.ensures.range

pub returns-clause-adds : goal.returns-clause-adds
returns-clause-adds c =
    let board = c.args.self.now in
    let triple = c.args.triple in
    let (lh, lt, lr) = c.in_ok-change.ensures.range in
    let changes = c.in_ok-change.ensures.changes in
    now_holds board c.change.new.self _ _ c.change.ensures.size changes.written
    (marked_put board.size board.words.now board.whole triple.holder triple.target lh lt triple.rights changes.word lr (changes.such.0 (omega arith)))
