use Rattle.std.proofs.Common.{chars, sym, ◌∙◌, zero-le, arith}
use Rattle.std.specs.Str.Iter.{chars_rest}
use Rattle.std.proofs.lemmas.Str.{encodes-chars}
use Rattle.naco_normal.proofs.SkipLemmas.{skip_more, skip_none, skip_all}
use Rattle.naco_normal.proofs.heading.behind.Goals as goal

pub loop-passed-init : goal.loop-passed-init
loop-passed-init c = (encodes-chars c.args.text.now c.utf8.text ∙ sym c.chars-rest.ensures.rest, zero-le)

pub returns-in_default : goal.returns-in_default
returns-in_default c =
    skip_none (chars c.args.text.now) (chars_rest c.loop-passed.rest) c.loop-passed._passed c.args.skip c.loop-passed.invariant.0 c.in_default.ensures.steps.0.0 c.loop-passed-test.true

pub loop-passed-preserved : goal.loop-passed-preserved
loop-passed-preserved c =
    skip_more (chars c.args.text.now) (chars_rest c.loop-passed.rest) (chars_rest c.next.new.self) c.loop-passed._passed c.in-Some._character c.loop-passed.invariant.1 c.loop-passed.invariant.0 c.in-Some.ensures.steps.0

pub returns : goal.returns
returns c =
    skip_all (chars c.args.text.now) c.as_str.result.now c.loop-passed._passed c.args.skip c.loop-passed.invariant.1 (c.loop-passed.invariant.0 ∙ sym c.as_str.ensures) c.as_str.utf8 (omega arith)
