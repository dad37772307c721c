use Rattle.std.proofs.Common.{true, false, List, subst, rules, tests}
use Rattle.std.proofs.lemmas.Iterator.{IsFirst-from_position, YieldsList-from_slice}
use Rattle.store.specs.declared.triple.Triple.{Triple}
use Rattle.roll.specs.Lists.{Found}
use Rattle.roll.proofs.Listing.{found_first, IsIt}
use Rattle.roll.proofs.Roll.find.Goals as goal

pub returns : goal.returns
returns c =
    let triple = c.args.triple in
    let found =
    found_first triple c.used.result.now c.position.result
    (IsFirst-from_position _ _ c.position.result (IsIt triple true) (IsIt triple false) c.position.ensures.ran
    (YieldsList-from_slice c.used.result.now cc)
    (λ y q k. search (rules, tests))
    (λ y q k. search (rules, tests))) in
    subst (λ (l : List Triple). Found l triple c.position.result) c.used.ensures found
