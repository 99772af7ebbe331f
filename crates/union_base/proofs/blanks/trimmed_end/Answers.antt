use Rattle.std.proofs.Common.{◌∙◌, sym, ap}
use Rattle.union_base.specs.Blanks.{trim_end}
use Rattle.union_base.proofs.TrimLaws.{trim_end-kept, trim_end-blank}
use Rattle.union_base.proofs.blanks.trimmed_end.Goals as goal

pub returns-then-last-ne32 : goal.returns-then-last-ne32
returns-then-last-ne32 c =
    let parts = c.in-Some.ensures.cases.0 in
    sym (c.loop-last.invariant ∙ (ap trim_end parts ∙ (trim_end-kept c.in-Some.before.now c.in-Some.last.now c.if-last-ne32.true ∙ sym parts)))

pub loop-last-preserved : goal.loop-last-preserved
loop-last-preserved c =
    let parts = c.in-Some.ensures.cases.0 in
    c.loop-last.invariant ∙ (ap trim_end parts ∙ trim_end-blank c.in-Some.before.now c.in-Some.last.now c.if-last-ne32.false)
