use Rattle.std.proofs.Common.{refl, arith, rules}
use Rattle.roll.proofs.Apartness.{apart_pushed, listed_pushed}
use Rattle.roll.proofs.Roll.push.Goals as goal

pub invariant_of-self : goal.invariant_of-self
invariant_of-self c =
    let roll = c.args.self.now in
    let apart =
    apart_pushed roll.records.now roll.len c.args.triple (omega arith) roll.size roll.apart
    c.requires.range c.requires.new in
    search rules

pub returns : goal.returns
returns c =
    let roll = c.args.self.now in
    record { size = refl; limit = refl; holds = listed_pushed roll.records.now roll.len c.args.triple (omega arith) }
