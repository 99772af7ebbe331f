use Rattle.catalogue_export.proofs.FieldLaws.{is_text-own_name}
use Rattle.catalogue_export.proofs.fields.number_field.Goals as goal

pub made_control-requires : goal.made_control-requires
made_control-requires c = rw c.in_ok-own_name.ensures (is_text-own_name c.args.id.now c.requires)
