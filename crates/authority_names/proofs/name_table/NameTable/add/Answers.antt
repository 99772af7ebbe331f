use Rattle.std.proofs.Common.{ap, ◌∙◌}
use Rattle.workset_keys.specs.Texts.{is_key_text}
use Rattle.authority_names.proofs.TextLaws.{text-established_in}
use Rattle.authority_names.proofs.name_table.NameTable.add.Goals as goal

pub take-requires : goal.take-requires
take-requires c = ap is_key_text c.in-Ok.ensures.1.0 ∙ text-established_in c.args.rec.now.fields
