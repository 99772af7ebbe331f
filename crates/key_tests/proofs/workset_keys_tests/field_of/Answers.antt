use Rattle.std.proofs.Common.{All, IsUtf8, subst, sym}
use Rattle.union_base.specs.Bodies.{Body, Subfield, subfields_of}
use Rattle.key_tests.proofs.workset_keys_tests.field_of.Goals as goal

pub returns-then-is_field : goal.returns-then-is_field
returns-then-is_field c =
    subst (λ (body : Body). All (λ (s : Subfield). IsUtf8 s.text) (subfields_of body)) (sym c.in_ok-body.ensures)
    (subst (All (λ (s : Subfield). IsUtf8 s.text)) (sym c.deref-2.ensures.value) c.in_ok-subfields.ensures)
