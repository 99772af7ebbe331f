use Rattle.std.proofs.Common.{sym, ap, ◌∙◌}
use Rattle.catalogue_export.specs.Exported.{field_of}
use Rattle.catalogue_export.proofs.FieldLaws.{field_of-is}
use Rattle.catalogue_export.proofs.owners.with_owner.Goals as goal

pub returns : goal.returns
returns c = ap (field_of c.args.field.now.tag) (sym c.in_ok-body.ensures.value) ∙ field_of-is _
