use Rattle.std.proofs.Common.{arith, sym}
use Rattle.marc_fields.proofs.RowLaws.{ends-at, ends-nowhere}
use Rattle.marc_fields.proofs.ending.ends_in_only.Goals as goal

pub returns-in-Some : goal.returns-in-Some
returns-in-Some c =
    ends-at c.args.end c.args.bytes.now c.in-Some.place c.in-Some.ensures.0.high c.in-Some.ensures.1 (λ j lt is. c.in-Some.ensures.0.before j (omega arith) lt is)

pub returns-in-None : goal.returns-in-None
returns-in-None c = sym (ends-nowhere c.args.end c.args.bytes.now (λ j lt is. c.in-None.ensures j (omega arith) lt is))
