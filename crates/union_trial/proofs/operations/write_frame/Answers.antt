use Rattle.union_trial.proofs.Acceptance.{drawn-fits}
use Rattle.union_trial.proofs.operations.write_frame.Goals as goal

pub unreachable-requires : goal.unreachable-requires
unreachable-requires c =
    let fits = drawn-fits c.args.draws.now in
    let cause = rw (c.in-Err-FieldTooLong.field-0-is, c.in_ok-made.ensures, fits) at c.in-Err-FieldTooLong.ensures.refused_exactly in
    cc

pub unreachable-requires-in-Err-RecordTooLong : goal.unreachable-requires-in-Err-RecordTooLong
unreachable-requires-in-Err-RecordTooLong c =
    let fits = drawn-fits c.args.draws.now in
    let cause = rw (c.in-Err-RecordTooLong.field-0-is, c.in_ok-made.ensures, fits) at c.in-Err-RecordTooLong.ensures.refused_exactly in
    cc
