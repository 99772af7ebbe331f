use Rattle.std.proofs.Common.{All, IsUtf8}
use Rattle.union_base.specs.Bodies.{Subfield}
use Rattle.key_tests.proofs.naco_normal_tests.body_of.Given as goal

abbrev pub invariant-loop-cell : goal.invariant-loop-cell
invariant-loop-cell l = All (λ (s : Subfield). IsUtf8 s.text) l.subfields.items
