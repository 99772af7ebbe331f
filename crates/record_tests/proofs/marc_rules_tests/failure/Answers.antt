use Rattle.std.proofs.Common.{refl}
use Rattle.marc_rules.proofs.CheckLaws.{frame-IsWhole}
use Rattle.record_tests.proofs.marc_rules_tests.failure.Goals as goal

pub check_frame-requires : goal.check_frame-requires
check_frame-requires c = λ cut. frame-IsWhole c.args.bytes.now (c.if-not-is_frame.ensures.0 refl)

pub accepted_status-requires : goal.accepted_status-requires
accepted_status-requires c = λ cut. frame-IsWhole c.args.bytes.now (c.if-not-is_frame.ensures.0 refl)
