use Rattle.std.proofs.Common.{sym, ap, ◌∙◌}
use Rattle.catalogue_export.specs.Exported.{field_of}
use Rattle.catalogue_export.proofs.FieldLaws.{field_of-is, are_subfields-data}
use Rattle.catalogue_export.proofs.fields.made_blank.Goals as goal

pub blank_body-requires : goal.blank_body-requires
blank_body-requires c =
    let parts = are_subfields-data c.args.tag.now 0x20 0x20 c.args.subfields.now c.requires in
    record { some = parts.0; formed = parts.1 }

pub returns : goal.returns
returns c = ap (field_of c.args.tag.now) (sym c.in_ok-body.ensures) ∙ field_of-is _
