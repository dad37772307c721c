use Rattle.access.proofs.History.Naming.{found, missing, not_missing}
use Rattle.access.proofs.Rules.Showing.{load_shows}
use Rattle.access.proofs.laws.names.Goals as goal

pub returns : goal.returns
returns c = record {
  found_whole = record { found = found; missing = λ name names. (missing name names, not_missing name names) };
  load_shows = load_shows;
}
