use Rattle.std.proofs.Common.{◌∙◌, ap, arith, length}
use Rattle.marc_fields.specs.Rules.{leader_of_frame}
use Rattle.marc_fields.proofs.DecodingLaws.{front-base, directory-size}
use Rattle.marc_rules.specs.NineteenRules.{status_of, coding_of}
use Rattle.marc_rules.proofs.CheckLaws.{record-same, sound-in, Answers-of}
use Rattle.marc_rules.proofs.check.check_behind.Goals as goal

pub split_frame-parts-requires-clause-low : goal.split_frame-parts-requires-clause-low
split_frame-parts-requires-clause-low c = (front-base (leader_of_frame c.args.frame.now) c.args.frame.now c.args.front.now.codes c.args.front.now.base c.requires.front).low

pub split_frame-parts-requires-clause-high : goal.split_frame-parts-requires-clause-high
split_frame-parts-requires-clause-high c = (front-base (leader_of_frame c.args.frame.now) c.args.frame.now c.args.front.now.codes c.args.front.now.base c.requires.front).high

pub overflow_sub-count : goal.overflow_sub-count
overflow_sub-count c = (front-base (leader_of_frame c.args.frame.now) c.args.frame.now c.args.front.now.codes c.args.front.now.base c.requires.front).low

pub check_record-requires-clause-size : goal.check_record-requires-clause-size
check_record-requires-clause-size c =
    let has = front-base (leader_of_frame c.args.frame.now) c.args.frame.now c.args.front.now.codes c.args.front.now.base c.requires.front in
    ap length c.split_frame-parts.ensures.directory ∙ directory-size c.args.frame.now c.args.front.now.base has

pub check_record-requires-clause-few : goal.check_record-requires-clause-few
check_record-requires-clause-few c =
    let has = front-base (leader_of_frame c.args.frame.now) c.args.frame.now c.args.front.now.codes c.args.front.now.base c.requires.front in
    omega (arith, has.high, c.requires.frame.size)

pub returns : goal.returns
returns c =
    let frame = c.args.frame.now in
    let base = c.args.front.now.base in
    let directory = c.split_frame-parts.result.directory.now in
    let bytes = c.split_frame-parts.result.bytes.now in
    let d = c.split_frame-parts.ensures.directory in
    let b = c.split_frame-parts.ensures.bytes in
    Answers-of c.check_record.result _ _ _ _ (record-same (status_of frame) (coding_of frame) frame directory bytes base c.requires.front.base_is d b)
    (λ entries sound. sound-in frame base directory bytes entries.items d b sound) c.check_record.ensures
