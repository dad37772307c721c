use Rattle.std.proofs.Common.{Ok}
use Rattle.access.specs.History.Calls.{serve}
use Rattle.access.specs.History.Runs.{after}
use Rattle.access.proofs.Model.Local.{separate, separation, from_separation, flow, to_local, groups_flow}
use Rattle.access.proofs.History.Running.{one_step, whole_runs}
use Rattle.access.proofs.laws.confinement.Goals as goal

pub returns : goal.returns
returns c = record {
  one_step = record {
    legal = λ past op marks. one_step past (serve op marks) (Ok tt);
    refused = λ past op marks refusal sound. sound;
  };
  whole_runs = whole_runs;
  local_means = λ history sane. (
    λ local. (separation (after history) sane (separate (after history) sane local), flow (after history) sane local),
    λ both. to_local (after history) sane (from_separation (after history) sane both.0) both.1,
  );
  groups_flow = λ history sane. groups_flow (after history) sane;
  chains_add_nothing = λ history sane. (separation (after history) sane, from_separation (after history) sane);
}
