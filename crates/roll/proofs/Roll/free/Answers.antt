use Rattle.std.proofs.Common.{refl, arith, rules}
use Rattle.roll.proofs.Apartness.{apart_left, listed_left}
use Rattle.roll.proofs.Roll.free.Goals as goal

pub invariant_of-self : goal.invariant_of-self
invariant_of-self c =
    let roll = c.args.self.now in
    let apart = apart_left roll.size roll.records.now roll.len c.args.place (omega arith) c.requires roll.apart in
    search rules

pub returns : goal.returns
returns c =
    let roll = c.args.self.now in
    record {
      size = refl;
      limit = refl;
      holds = listed_left roll.size roll.records.now roll.len c.args.place (omega arith) c.requires roll.apart;
    }
