use Rattle.access.proofs.History.Histories.{stands, holds}
use Rattle.access.proofs.laws.standing.Goals as goal

pub returns : goal.returns
returns c = λ history h t r. (stands history h t r, holds history h t r)
