use Rattle.std.proofs.Common.{◌≡◌, [], IsTrue, sym, subst, ap, ◌∙◌}
use Rattle.std.specs.Prelude.{if◌then◌else◌}
use Rattle.std.specs.Option.{ForSome, option_copied}
use Rattle.std.specs.Str.{is_utf8}
use Rattle.std.proofs.lemmas.Result.{IfOk-weaker}
use Rattle.union_base.specs.Both.{both_true}
use Rattle.union_base.specs.Fields.{is_text}
use Rattle.naco_normal.specs.Words.{is_empty}
use Rattle.workset_keys.specs.Names.{HasTexts}
use Rattle.workset_keys.specs.WorkKeys.{least_of}
use Rattle.field_merge.specs.declared.content.Content.{Content}
use Rattle.field_merge.specs.declared.slot.Slot.{Slot}
use Rattle.record_editions.specs.EditionKeys.{added_names, field_in, work_key_by}
use Rattle.record_editions.proofs.EditionTexts.{main_texts, uniform_texts, title_texts}
use Rattle.record_editions.proofs.KeyTexts.{key-made, key-work_key}
use Rattle.record_editions.proofs.work_key.work_key_of.Goals as goal

pub main_name-requires : goal.main_name-requires
main_name-requires c =
    let is = c.field_in-main.ensures ∙ ap field_in (c.f1xx.ensures ∙ ap (λ (x : Content). x.f1xx) c.shown-shown.ensures) in
    subst (λ o. ForSome o HasTexts) (sym is) (main_texts c.args.edition.now)

pub key_of_names-requires : goal.key_of_names-requires
key_of_names-requires c =
    let main = c.field_in-main.ensures ∙ ap field_in (c.f1xx.ensures ∙ ap (λ (x : Content). x.f1xx) c.shown-shown.ensures) in
    let uniform = c.field_in.ensures ∙ ap field_in (c.f240.ensures ∙ ap (λ (x : Content). x.f240) c.shown-shown.ensures) in
    let title = c.f245.ensures ∙ ap (λ (x : Content). x.f245) c.shown-shown.ensures in
    record {
      main = subst (λ o. ForSome o HasTexts) (sym main) (main_texts c.args.edition.now);
      uniform = subst (λ o. ForSome o HasTexts) (sym uniform) (uniform_texts c.args.edition.now);
      title = subst (λ (s : Slot). HasTexts s.field) (sym title) (title_texts c.args.edition.now);
    }

pub returns : goal.returns
returns c =
    let names = c.args.names.now in
    let edition = c.args.edition.now in
    let main = c.field_in-main.ensures ∙ ap field_in (c.f1xx.ensures ∙ ap (λ (x : Content). x.f1xx) c.shown-shown.ensures) in
    let uniform = c.field_in.ensures ∙ ap field_in (c.f240.ensures ∙ ap (λ (x : Content). x.f240) c.shown-shown.ensures) in
    let title = ap (λ (s : Slot). s.field) (c.f245.ensures ∙ ap (λ (x : Content). x.f245) c.shown-shown.ensures) in
    let others = ap least_of c.as_slice.ensures.value ∙ c.in_ok-others.ensures
    ∙ ap (λ (x : Content). if is_empty c.in_ok-name.name then least_of (added_names names x.united) else []) c.shown-shown.ensures in
    let made = key-made names edition (option_copied c.field_in-main.result) (option_copied c.field_in.result) c.f245.result.now.field main uniform title
    c.in_ok-main_name.field-0 c.in_ok-main_name.ensures c.in_ok-name.name c.in_ok-name.ensures.value (least_of c.as_slice.result.now) others
    c.least.result.now c.least.ensures in
    let key' = work_key_by names edition in
    let both = both_true (is_text key') (is_utf8 key') (key-work_key names c.used_for.ensures.texts edition) in
    record {
      value = IfOk-weaker c.key_of_names.result _ (λ key. key ≡ key') (λ key is. is ∙ made) c.key_of_names.ensures;
      text = IfOk-weaker c.key_of_names.result _ (λ key. IsTrue (is_text key)) (λ key is. ap is_text (is ∙ made) ∙ both.0) c.key_of_names.ensures;
      utf8 = IfOk-weaker c.key_of_names.result _ (λ key. IsTrue (is_utf8 key)) (λ key is. ap is_utf8 (is ∙ made) ∙ both.1) c.key_of_names.ensures;
    }
