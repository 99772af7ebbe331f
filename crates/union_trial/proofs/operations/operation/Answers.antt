use Rattle.std.proofs.Common.{◌≡◌, sym, subst, ◌∙◌}
use Rattle.marc_fields.specs.Spelling.{Spells, spelling}
use Rattle.marc_fields.proofs.RecordLaws.{Spells-one}
use Rattle.iso2709_frame.specs.Frames.{IsWhole}
use Rattle.union_trial.specs.TrialRecords.{record_of}
use Rattle.union_trial.proofs.Acceptance.{drawn-unbroken, drawn-whole, drawn-Spells}
use Rattle.union_trial.proofs.operations.operation.Goals as goal

pub check_frame-requires : goal.check_frame-requires
check_frame-requires c = λ whole. subst IsWhole (sym (c.as_slice.ensures.value ∙ c.in_ok-write_frame.ensures)) (drawn-whole c.args.draws.now)

pub unreachable-requires : goal.unreachable-requires
unreachable-requires c =
    let unbroken = drawn-unbroken c.args.draws.now in
    let failure = rw (c.in-Err-Rule.field-0-is, c.as_slice.ensures.value, c.in_ok-write_frame.ensures, unbroken) at c.in-Err-Rule.ensures.first in
    cc

pub returns-in-Ok-clause-value : goal.returns-in-Ok-clause-value
returns-in-Ok-clause-value c =
    let d = c.args.draws.now in
    let spelled : Spells (spelling (record_of d)) c.in-Ok.rec = rw (c.as_slice.ensures.value, c.in_ok-write_frame.ensures) at c.in-Ok.ensures.first.1 in
    let same : c.in-Ok.rec ≡ record_of d = Spells-one (spelling (record_of d)) c.in-Ok.rec (record_of d) spelled (drawn-Spells d) in
    rw (sym same) (rw c.none.ensures at c.op_of.ensures.value)
