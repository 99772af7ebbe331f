use Rattle.std.proofs.Common.{sym, ap, ◌∙◌, [], ◌∷◌}
use Rattle.catalogue_export.proofs.FieldLaws.{field_of-is, are_subfields-data}
use Rattle.catalogue_export.specs.Exported.{field_of, subfield}
use Rattle.union_trial.proofs.records.text_field.Goals as goal

pub of_subfields-requires : goal.of_subfields-requires
of_subfields-requires c =
    let parts = are_subfields-data c.args.tag.now c.args.ind1 c.args.ind2 (subfield 0x61 c.args.text.now ∷ []) c.requires in
    record { some = parts.0; formed = parts.1 }

pub returns : goal.returns
returns c = ap (field_of c.args.tag.now) (sym c.in_ok-body.ensures) ∙ field_of-is _
