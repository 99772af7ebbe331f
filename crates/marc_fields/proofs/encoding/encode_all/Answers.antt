use Rattle.std.proofs.Common.{map, arith}
use Rattle.std.proofs.lemmas.Grind.{common_steps}
use Rattle.marc_fields.specs.Spelling.{record_of}
use Rattle.marc_fields.proofs.SpellingLaws.{spelling-Spells}
use Rattle.marc_fields.proofs.encoding.encode_all.Goals as goal

pub returns-in-Ok-clause-spells : goal.returns-in-Ok-clause-spells
returns-in-Ok-clause-spells g c =
    spelling-Spells (record_of c.args.codes (map g.F.HasField.field c.args.fields.now)) c.in-Ok.ensures.codes
    (grind (arith, common_steps)) (grind (arith, common_steps))
