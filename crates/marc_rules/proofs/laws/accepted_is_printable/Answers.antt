use Rattle.marc_rules.proofs.AcceptedProof.{accepted-printable}
use Rattle.marc_rules.proofs.laws.accepted_is_printable.Goals as goal

pub returns : goal.returns
returns c = accepted-printable
