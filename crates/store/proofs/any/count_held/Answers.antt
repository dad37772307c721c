use Rattle.std.proofs.Common.{◌^◌, ap, ◌∙◌, arith, rules, tests}
use Rattle.access.specs.Rules.Sets.{over, total}
use Rattle.store.proofs.Summing.{fits_below, held_few, sum_below}
use Rattle.store.proofs.any.count_held.Goals as goal

pub sum-requires-clause-fits : goal.sum-requires-clause-fits
sum-requires-clause-fits g c =
    let store = g.S.Store.contents c.args.store.now in
    let lawful = g.met.S.Store.lawful c.args.store.now in
    let few = held_few store.size store.holds c.args.holder lawful.small in
    fits_below (over store.holds c.args.holder) c.size.result (cc) c.map.ensures.closure (λ x r q k. search (rules, tests)) (2 ^ 32)
    (omega (arith, few, ap (total (over store.holds c.args.holder)) c.size.ensures))

pub returns : goal.returns
returns g c =
    let each = over (g.S.Store.contents c.args.store.now).holds c.args.holder in
    sum_below each c.size.result (cc) c.map.ensures.closure (λ x r q k. search (rules, tests)) c.sum.result c.sum.ensures.ran
    ∙ ap (total each) c.size.ensures
