use Rattle.marc_fields.proofs.TilingLaws.{tiles-all}
use Rattle.marc_rules.proofs.check.check_entries.Goals as goal

pub check_tiled-requires-clause-tiles : goal.check_tiled-requires-clause-tiles
check_tiled-requires-clause-tiles c = tiles-all c.args.bytes.now c.args.entries.now c.in-Ok.ensures.0
