use Rattle.std.proofs.Common.{rules, tests}
use Rattle.std.proofs.lemmas.Iterator.{YieldsList-from_slice}
use Rattle.std.proofs.lemmas.Iterator.Consumers.{YieldsList-from_filter}
use Rattle.roll.proofs.Listing.{over, word_folded}
use Rattle.roll.proofs.list.word_of.Goals as goal

pub returns : goal.returns
returns c =
    let list = c.args.list.now in
    word_folded c.args.holder c.args.target _ list c.fold.result c.fold.ensures.ran
    (YieldsList-from_filter _ (over c.args.holder c.args.target) (YieldsList-from_slice list cc) c.filter.ensures.closure (λ y b q k. search (rules, tests)))
    c.requires
    (λ a x b f call. search (rules, tests))
