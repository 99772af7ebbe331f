use Rattle.std.proofs.Common.{All, subst, sym}
use Rattle.std.proofs.lemmas.List.Elements.{All-push}
use Rattle.workset_keys.specs.Names.{HasTexts}
use Rattle.key_tests.proofs.workset_keys_tests.push_field.Goals as goal

pub returns : goal.returns
returns c =
    subst (All HasTexts) (sym c.in_ok-push.ensures.items)
    (All-push HasTexts c.args.fields.now.items _ c.requires c.in_ok-field.ensures)
