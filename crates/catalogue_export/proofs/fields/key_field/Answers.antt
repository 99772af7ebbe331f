use Rattle.std.proofs.Common.{true, refl}
use Rattle.union_base.specs.Both.{true_both}
use Rattle.union_base.specs.Fields.{is_text}
use Rattle.catalogue_export.specs.Exported.{front_within, longest_key}
use Rattle.catalogue_export.proofs.FieldLaws.{is_text-front}
use Rattle.catalogue_export.proofs.fields.key_field.Goals as goal

pub made_blank-requires : goal.made_blank-requires
made_blank-requires c =
    rw c.front_within.ensures
    (true_both (is_text (front_within longest_key c.args.key.now)) true (is_text-front longest_key c.args.key.now c.requires) refl)

pub returns : goal.returns
returns c = rw c.front_within.ensures at c.made_blank.ensures
