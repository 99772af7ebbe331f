use Rattle.marc_rules.proofs.AcceptedProof.{accepted-loadable}
use Rattle.marc_rules.proofs.laws.accepted_is_loadable.Goals as goal

pub returns : goal.returns
returns c = accepted-loadable
