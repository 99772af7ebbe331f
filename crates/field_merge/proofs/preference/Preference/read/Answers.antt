use Rattle.std.proofs.Common.{sym, ap, ◌∙◌}
use Rattle.field_merge.proofs.PreferredLaws.{preference_after, texts_left, refused-after, texts-first}
use Rattle.field_merge.proofs.preference.Preference.read.Goals as goal

pub returns-then-not-add : goal.returns-then-not-add
returns-then-not-add c =
    let codes = c.loop-rest.preference in
    let first = c.first_text.result.0.now in
    let more = c.first_text.result.1 in
    refused-after codes (texts_left more) first (sym c.add.ensures.answer ∙ c.if-not-add.true)
    ∙ ap (preference_after codes) (sym (ap texts_left c.in-Some.is ∙ texts-first more c.in-Some.text.now first c.first_text.ensures))
    ∙ sym c.loop-rest.invariant.left
