use Rattle.marc_rules.proofs.CheckLaws.{whole-IsFrame}
use Rattle.marc_rules.proofs.check.check_frame.Goals as goal

pub check_whole-requires : goal.check_whole-requires
check_whole-requires c = whole-IsFrame c.args.bytes.now (c.requires c.in-Whole.is)

pub read_record-requires-clause-frame : goal.read_record-requires-clause-frame
read_record-requires-clause-frame c = whole-IsFrame c.args.bytes.now (c.requires c.in-Whole.is)
