use Rattle.std.proofs.lemmas.List.{get_or_default}
use Rattle.std.proofs.Common.{All, sym, ap, ◌∙◌, ◌<◌, subst, arith, List}
use Rattle.store.specs.declared.triple.Triple.{Triple}
use Rattle.roll.specs.Lists.{listed, blank}
use Rattle.roll.specs.Rolls.{used}
use Rattle.roll.proofs.Apartness.{apart_at, listed_outside}
use Rattle.access.proofs.WordBits.{no_bits}
use Rattle.roll.proofs.as_store.RollStore.word.Goals as goal

pub word_of-requires : goal.word_of-requires
word_of-requires c =
    let roll = c.args.self.now in
    subst (All (λ (x : Triple). x.rights < 32)) (sym c.used.ensures)
    (λ i d below. let (_, _, rights) = apart_at roll.size (used roll) i roll.apart below in
    omega (arith, ap (λ (x : Triple). x.rights) (get_or_default (used roll) i d blank below)))

pub returns-clause-outside : goal.returns-clause-outside
returns-clause-outside c out =
    let roll = c.args.self.now in
    no_bits c.word_of.result (omega arith)
    (λ r. c.word_of.ensures r
    ∙ ap (λ (l : List Triple). listed l c.args.holder c.args.target r) c.used.ensures
    ∙ listed_outside roll.size (used roll) roll.apart c.args.holder c.args.target r out)
