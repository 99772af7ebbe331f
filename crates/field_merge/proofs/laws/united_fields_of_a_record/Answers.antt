use Rattle.std.specs.Prelude.{filter}
use Rattle.union_base.specs.FieldLaws.{field_cmp-IsAntisymmetric}
use Rattle.field_merge.specs.Contents.{is_united}
use Rattle.field_merge.specs.KeptLaws.{field_total}
use Rattle.field_merge.proofs.Members.{members-set_of, member-filter}
use Rattle.field_merge.proofs.laws.united_fields_of_a_record.Goals as goal

pub returns : goal.returns
returns c prefer library r field =
    let set = members-set_of field_total field_cmp-IsAntisymmetric (filter is_united r.fields) field in
    let passed = member-filter is_united r.fields field in
    (λ m. passed.0 (set.0 m), λ m. set.1 (passed.1 m))
