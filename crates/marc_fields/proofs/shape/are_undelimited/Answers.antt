use Rattle.std.proofs.Common.{arith, sym}
use Rattle.marc_fields.proofs.ShapeLaws.{delimited-at, undelimited-all}
use Rattle.marc_fields.proofs.shape.are_undelimited.Goals as goal

pub returns-in-Some : goal.returns-in-Some
returns-in-Some c = sym (delimited-at c.args.bytes.now c.in-Some._place c.in-Some.ensures.0.high c.in-Some.ensures.1)

pub returns-in-None : goal.returns-in-None
returns-in-None c = sym (undelimited-all c.args.bytes.now (λ k lt is. c.in-None.ensures k (omega arith) lt is))
