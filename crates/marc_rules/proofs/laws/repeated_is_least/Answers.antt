use Rattle.marc_rules.proofs.RepeatLaws.{repeated-least}
use Rattle.marc_rules.proofs.laws.repeated_is_least.Goals as goal

pub returns : goal.returns
returns c = repeated-least
