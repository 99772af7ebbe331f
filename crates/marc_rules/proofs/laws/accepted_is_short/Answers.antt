use Rattle.marc_rules.proofs.AcceptedProof.{accepted-short}
use Rattle.marc_rules.proofs.laws.accepted_is_short.Goals as goal

pub returns : goal.returns
returns c = accepted-short
