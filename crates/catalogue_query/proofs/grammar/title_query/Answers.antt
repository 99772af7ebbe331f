use Rattle.std.proofs.Common.{◌==◌, length, sym, ap, ◌∙◌}
use Rattle.std.specs.Str.{is_utf8}
use Rattle.std.proofs.lemmas.Str.{IsUtf8-from_is_utf8, is_utf8-from_IsUtf8}
use Rattle.naco_normal.specs.Heading.{form_without_comma}
use Rattle.union_base.proofs.BlankLaws.{false_of}
use Rattle.catalogue_query.proofs.TitleLaws.{title_found, title_missing}
use Rattle.catalogue_query.proofs.grammar.title_query.Goals as goal

pub returns-in_default : goal.returns-in_default
returns-in_default c =
    let rest = c.args.rest.now in
    title_missing (is_utf8 rest) (form_without_comma rest)
    (false_of (is_utf8 rest) (λ is. c.in_default.ensures.cases.0 (IsUtf8-from_is_utf8 rest is)))

pub returns : goal.returns
returns c =
    let rest = c.args.rest.now in
    title_found (is_utf8 rest) (form_without_comma rest) c.in_ok-form.form (is_utf8-from_IsUtf8 rest c.in-Ok.ensures.cases.1)
    (c.in_ok-form.ensures ∙ ap form_without_comma c.in-Ok.ensures.cases.0)
    (ap (λ t. length t == 0) (sym c.bytes.ensures) ∙ (sym c.is_empty.ensures ∙ c.if-is_empty.false))
