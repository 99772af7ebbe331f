use Rattle.marc_fields.proofs.RecordLaws.{Spells-one}
use Rattle.marc_fields.proofs.laws.spells_one.Goals as goal

pub returns : goal.returns
returns c = Spells-one
