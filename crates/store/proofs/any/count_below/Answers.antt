use Rattle.std.proofs.Common.{◌^◌, arith, rules, tests}
use Rattle.access.specs.Rules.Sets.{held_by, members}
use Rattle.store.proofs.Summing.{fits_below, sum_below, total_below}
use Rattle.store.proofs.any.count_below.Goals as goal

pub sum-requires-clause-fits : goal.sum-requires-clause-fits
unfolding members
sum-requires-clause-fits g c =
    let store = g.S.Store.contents c.args.store.now in
    let lawful = g.met.S.Store.lawful c.args.store.now in
    let each = held_by store.size store.holds in
    fits_below each c.args.end (cc) c.map.ensures.closure (λ x r q k. search (rules, tests)) (2 ^ 32)
    (omega (arith, lawful.fits, lawful.bounded, total_below each c.args.end store.size (omega arith)))

pub returns : goal.returns
returns g c =
    let store = g.S.Store.contents c.args.store.now in
    sum_below (held_by store.size store.holds) c.args.end (cc) c.map.ensures.closure (λ x r q k. search (rules, tests)) c.sum.result c.sum.ensures.ran
