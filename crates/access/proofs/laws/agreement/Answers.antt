use Rattle.access.specs.History.Runs.{after}
use Rattle.access.proofs.Rules.Following.{present_after, serves_model, gainers_present}
use Rattle.access.proofs.Rules.Legality.{accepts_legal}
use Rattle.access.proofs.Rules.Revocations.{revoking}
use Rattle.access.proofs.laws.agreement.Goals as goal

pub returns : goal.returns
returns c = record {
  accepts_legal = accepts_legal;
  serves_model = serves_model;
  accounts_model = λ past op marks legal. record {
    present = present_after (after past) op legal;
    holds = λ h t r. (λ held. held, λ held. held);
  };
  gainers_present = gainers_present;
  revoking = revoking;
}
