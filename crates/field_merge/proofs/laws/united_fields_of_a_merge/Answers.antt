use Rattle.union_base.specs.FieldLaws.{field_cmp-IsAntisymmetric}
use Rattle.field_merge.specs.KeptLaws.{field_total}
use Rattle.field_merge.proofs.Members.{members-union}
use Rattle.field_merge.proofs.laws.united_fields_of_a_merge.Goals as goal

pub returns : goal.returns
returns c a b field = members-union field_total field_cmp-IsAntisymmetric a.united b.united field
