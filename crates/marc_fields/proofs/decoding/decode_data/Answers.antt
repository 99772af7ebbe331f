use Rattle.marc_fields.proofs.TilingLaws.{tiles-all}
use Rattle.marc_fields.proofs.decoding.decode_data.Goals as goal

pub check_fields-requires-clause-tiles : goal.check_fields-requires-clause-tiles
check_fields-requires-clause-tiles c = tiles-all c.args.bytes.now c.args.entries.now c.in-Ok.ensures.0
