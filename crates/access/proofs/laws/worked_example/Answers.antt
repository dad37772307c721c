use Rattle.std.proofs.Common.{Ok, refl}
use Rattle.access.specs.Rules.Filled.{loaded}
use Rattle.access.specs.Rules.Worked.{worked, empty}
use Rattle.access.specs.Rules.Examples.{opened}
use Rattle.access.proofs.Worked.Rejections.{connected, uncharted}
use Rattle.access.proofs.Worked.Sheet.{worked_lawful, worked_loads, accepts}
use Rattle.access.proofs.Worked.TenCalls.{alike, ten}
use Rattle.access.proofs.laws.worked_example.Goals as goal

pub returns : goal.returns
returns c = record {
  lawful = worked_lawful;
  bytes = refl;
  answered = (
    Ok tt,
    loaded empty 0 worked,
    refl,
    (worked_loads, alike (loaded empty 0 worked)),
    (Ok tt, opened, refl, (accepts, alike opened), ten),
  );
  connected = connected;
  uncharted = uncharted;
}
