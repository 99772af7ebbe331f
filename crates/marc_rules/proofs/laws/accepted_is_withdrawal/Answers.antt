use Rattle.marc_rules.proofs.AcceptedProof.{accepted-withdrawal}
use Rattle.marc_rules.proofs.laws.accepted_is_withdrawal.Goals as goal

pub returns : goal.returns
returns c = accepted-withdrawal
