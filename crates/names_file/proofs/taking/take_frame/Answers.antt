use Rattle.marc_rules.proofs.CheckLaws.{whole-IsFrame}
use Rattle.names_file.proofs.taking.take_frame.Goals as goal

pub take_whole-requires : goal.take_whole-requires
take_whole-requires c = whole-IsFrame c.args.frame.now (c.requires c.in-Whole.is)
