use Rattle.std.proofs.Common.{All, IsUtf8, subst, sym}
use Rattle.union_base.specs.Bodies.{Body, Subfield, subfields_of}
use Rattle.key_tests.proofs.naco_normal_tests.body_of.Goals as goal

pub returns : goal.returns
returns c =
    subst (λ (body : Body). All (λ (s : Subfield). IsUtf8 s.text) (subfields_of body)) (sym c.in_ok-of_subfields.ensures)
    (subst (All (λ (s : Subfield). IsUtf8 s.text)) (sym c.deref-2.ensures.value) c.loop-cell.invariant)
