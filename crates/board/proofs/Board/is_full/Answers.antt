use Rattle.std.proofs.Common.{take, rules, tests}
use Rattle.std.proofs.lemmas.Iterator.{cases_from_all, YieldsList-from_slice}
use Rattle.board.specs.Boards.{AllBits, MissingBit}
use Rattle.board.proofs.Room.{full_or_room}
use Rattle.board.proofs.Board.is_full.Goals as goal

pub returns : goal.returns
returns c =
    let board = c.args.self.now in
    full_or_room board.size c.count_of.result board.words.now board.whole c.count_of.ensures c.all.result
    (cases_from_all _ _ c.all.result AllBits MissingBit c.all.ensures.ran
    (YieldsList-from_slice (take c.count_of.result board.words.now) cc)
    (λ x q k. search (rules, tests))
    (λ x q k. search (rules, tests)))
