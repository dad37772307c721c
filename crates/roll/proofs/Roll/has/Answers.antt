use Rattle.std.proofs.Common.{◌∙◌}
use Rattle.roll.specs.Rolls.{used}
use Rattle.roll.proofs.Listing.{listed_found}
use Rattle.roll.proofs.Roll.has.Goals as goal

pub returns : goal.returns
returns c =
    c.is_some.ensures ∙ listed_found (used c.args.self.now) c.args.triple c.find.result c.find.ensures
