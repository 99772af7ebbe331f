use Rattle.marc_fields.proofs.NoFailure.{spelled-no_failure}
use Rattle.marc_fields.proofs.laws.breaks_no_rule.Goals as goal

pub returns : goal.returns
returns c = spelled-no_failure
