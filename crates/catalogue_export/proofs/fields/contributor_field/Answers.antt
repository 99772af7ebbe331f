use Rattle.std.proofs.Common.{true, ◌&&◌, refl}
use Rattle.union_base.specs.Both.{true_both}
use Rattle.union_base.specs.Fields.{is_text}
use Rattle.catalogue_export.proofs.FieldLaws.{is_text-code, is_text-control}
use Rattle.catalogue_export.proofs.fields.contributor_field.Goals as goal

pub made_blank-requires : goal.made_blank-requires
made_blank-requires c =
    let id = c.args.id.now in
    rw (c.bytes.ensures.value, c.bytes-2.ensures)
    (true_both (is_text id.library) (is_text id.control && true) (is_text-code id c.requires)
    (true_both (is_text id.control) true (is_text-control id c.requires) refl))
