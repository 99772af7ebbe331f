use Rattle.marc_rules.proofs.CheckLaws.{frame-IsWhole}
use Rattle.notice_tests.proofs.worked.record_in.Goals as goal

pub check_frame-requires : goal.check_frame-requires
check_frame-requires c = λ cut. frame-IsWhole c.args.frame.now (c.is_frame.ensures.0 c.if-is_frame.true)
