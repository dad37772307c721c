use Rattle.std.proofs.Common.{sym, arith}
use Rattle.access.proofs.Rules.Counting.{over_ones}
use Rattle.store.proofs.any.count_over.Goals as goal

pub returns : goal.returns
returns g c =
    let held = (g.S.Store.contents c.args.store.now).holds in
    sym (over_ones held c.args.holder c.args.target c.word.result (omega arith) c.word.ensures.bits)
