use Rattle.marc_rules.proofs.AcceptedProof.{accepted-parts}
use Rattle.marc_rules.proofs.laws.accepted_has_parts.Goals as goal

pub returns : goal.returns
returns c = accepted-parts
