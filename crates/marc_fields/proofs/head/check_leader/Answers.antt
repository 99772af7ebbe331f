use Rattle.std.proofs.Common.{◌∙◌}
use Rattle.std.proofs.lemmas.Bool.{and_parts}
use Rattle.marc_leader.specs.Leader.{base_place}
use Rattle.marc_leader.specs.Numeral.{are_digits}
use Rattle.marc_fields.specs.Rules.{is_base, base_in}
use Rattle.marc_fields.proofs.FrontLaws.{none_if, some_if, leader_failure-digits, leader_failure-differs, leader_failure-base, leader_failure-counts, front-read}
use Rattle.marc_fields.proofs.head.check_leader.Goals as goal

pub returns-in_default : goal.returns-in_default
returns-in_default c = leader_failure-digits c.args.leader.now c.args.frame.now (none_if _ _ c.in_default.ensures.value)

pub returns-then-size-frame : goal.returns-then-size-frame
returns-then-size-frame c =
    let size = some_if _ _ c.in-Some.size c.in-Some.ensures.value in
    leader_failure-differs c.args.leader.now c.args.frame.now c.in-Some.size size.0 size.1 c.if-size-frame.true

pub returns-in_default-read_base : goal.returns-in_default-read_base
returns-in_default-read_base c =
    let size = some_if _ _ c.in-Some.size c.in-Some.ensures.value in
    leader_failure-base c.args.leader.now c.args.frame.now c.in-Some.size size.0 size.1 c.if-size-frame.false
    (none_if _ _ c.in_default-read_base.ensures)

pub read_codes-requires-clause-length : goal.read_codes-requires-clause-length
read_codes-requires-clause-length c = (some_if _ _ c.in-Some.size c.in-Some.ensures.value).0

pub read_codes-requires-clause-base : goal.read_codes-requires-clause-base
read_codes-requires-clause-base c =
    let base = some_if _ _ c.in-Some-read_base.base c.in-Some-read_base.ensures in
    (and_parts (are_digits (base_place c.args.leader.now)) (is_base (base_in c.args.leader.now) c.args.frame.now) base.0).0

pub returns-in-Ok : goal.returns-in-Ok
returns-in-Ok c =
    let size = some_if _ _ c.in-Some.size c.in-Some.ensures.value in
    let base = some_if _ _ c.in-Some-read_base.base c.in-Some-read_base.ensures in
    let digits = (and_parts (are_digits (base_place c.args.leader.now)) (is_base (base_in c.args.leader.now) c.args.frame.now) base.0).0 in (
      leader_failure-counts c.args.leader.now c.args.frame.now c.in-Some.size size.0 size.1 c.if-size-frame.false base.0 ∙ c.in-Ok.ensures.0,
      front-read c.args.leader.now c.args.frame.now c.in-Some.size c.in-Some-read_base.base c.in-Ok.codes size.0 digits size.1 c.if-size-frame.false base.0 base.1 c.in-Ok.ensures.1,
    )

pub returns-in-Err : goal.returns-in-Err
returns-in-Err c =
    let size = some_if _ _ c.in-Some.size c.in-Some.ensures.value in
    let base = some_if _ _ c.in-Some-read_base.base c.in-Some-read_base.ensures in
    leader_failure-counts c.args.leader.now c.args.frame.now c.in-Some.size size.0 size.1 c.if-size-frame.false base.0 ∙ c.in-Err.ensures
