use Rattle.std.proofs.Common.{length, arith}
use Rattle.union_base.proofs.SubfieldLaws.{undelimited-take}
use Rattle.union_base.proofs.subfields.undelimited_size.Goals as goal

pub returns-in-Some-clause-before : goal.returns-in-Some-clause-before
returns-in-Some-clause-before c =
    undelimited-take c.args.bytes.now c.in-Some.place (omega (arith, c.in-Some.ensures.0.high)) (λ k lt is. c.in-Some.ensures.0.before k (omega arith) lt is)

pub returns-in-None-clause-before : goal.returns-in-None-clause-before
returns-in-None-clause-before c =
    undelimited-take c.args.bytes.now (length c.args.bytes.now) (omega arith) (λ k lt is. c.in-None.ensures k (omega arith) lt is)
