use Rattle.union_base.specs.IdLaws.{ids_apart}
use Rattle.field_merge.specs.KeptLaws.{id_total}
use Rattle.field_merge.proofs.Members.{members-union}
use Rattle.field_merge.proofs.laws.contributors_of_a_merge.Goals as goal

pub returns : goal.returns
returns c a b id = members-union id_total ids_apart a.contributors b.contributors id
