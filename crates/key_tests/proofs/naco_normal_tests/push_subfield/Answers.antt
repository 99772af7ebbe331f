use Rattle.std.proofs.Common.{All, IsUtf8, sym, subst}
use Rattle.std.proofs.lemmas.List.Elements.{All-push}
use Rattle.union_base.specs.Bodies.{Subfield}
use Rattle.key_tests.proofs.naco_normal_tests.push_subfield.Goals as goal

pub returns : goal.returns
returns c =
    subst (All (λ (s : Subfield). IsUtf8 s.text)) (sym c.in_ok-push.ensures.items)
    (All-push (λ (s : Subfield). IsUtf8 s.text) c.args.subfields.now.items _ c.requires c.as_bytes-2.ensures.utf8)
