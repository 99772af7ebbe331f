use Rattle.marc_rules.proofs.AcceptedProof.{accepted-loadable, accepted-short}
use Rattle.record_editions.proofs.laws.accepted_can_be_loaded.Goals as goal

pub returns : goal.returns
returns c = record { loadable = accepted-loadable; short = accepted-short }
