use Rattle.marc_fields.proofs.RecordLaws.{spelling-IsSpelled}
use Rattle.marc_fields.proofs.laws.is_spelled.Goals as goal

pub returns : goal.returns
returns c = spelling-IsSpelled
