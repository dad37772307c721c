use Rattle.std.proofs.Common.{◌-◌, drop, refl, arith, length-drop, length-take}
use Rattle.board.proofs.Marking.{row_cleared}
use Rattle.board.proofs.as_store.BoardStore.drop_holder.Goals as goal

pub returns-clause-drops : goal.returns-clause-drops
returns-clause-drops c =
    let board = c.args.self.now in
    let row = c.row-row.result in
    record {
      size = refl;
      limit = refl;
      holds = row_cleared board.size board.words.now board.whole c.args.holder row.start _ c.clear_words.new.words
          (omega arith)
          (omega (arith, c.row-row.ensures.start))
          (omega (arith, c.row-row.ensures.end))
          c.clear_words.ensures.zeros
          (omega (arith, c.clear_words.ensures.len, c.row-row.ensures.start, c.row-row.ensures.end, length-take (row.end - row.start) (drop row.start board.words.now), length-drop row.start board.words.now));
    }
