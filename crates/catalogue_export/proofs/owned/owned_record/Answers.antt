use Rattle.std.proofs.Common.{◌≡◌, ◌-◌, Bor, length, map, ap, subst, ◌∙◌}
use Rattle.std.specs.Prelude.{IfOk}
use Rattle.std.specs.List.{list_all}
use Rattle.union_base.specs.declared.field.Field.{Field}
use Rattle.marc_fields.specs.Spelling.{is_short, record_of}
use Rattle.field_merge.specs.declared.content.Content.{Content}
use Rattle.field_merge.specs.declared.fixed.Fixed.{Fixed}
use Rattle.catalogue_export.specs.Fitting.{fitting}
use Rattle.catalogue_export.specs.Owners.{owned_content}
use Rattle.catalogue_export.specs.TagOrder.{in_tag_order}
use Rattle.catalogue_export.proofs.OwnersProof.{owned-sound}
use Rattle.catalogue_export.proofs.SoundLaws.{parts-short}
use Rattle.catalogue_export.proofs.owned.owned_record.Goals as goal

pub kept_record-requires : goal.kept_record-requires
kept_record-requires c =
    let records = c.args.records.now in
    let e = c.args.edition.now in
    ap (list_all is_short) (c.in_ok-all.ensures ∙ c.in_ok-made.ensures.parts) ∙ parts-short (owned_content records e) (owned-sound records e) c.args.key.now

pub returns-clause-value : goal.returns-clause-value
returns-clause-value c =
    let see = λ (f : Bor Field). f.now in
    let e = c.args.edition.now in
    let all = c.in_ok-all.ensures ∙ c.in_ok-made.ensures.parts in
    let fixed = c.fixed.ensures.value ∙ ap (λ (k : Content). k.fixed) c.in_ok-made.ensures.content in
    let rec = ap (λ (f : Fixed). record_of f.codes (in_tag_order (fitting (map see c.in_ok-all.all.items)))) fixed ∙ ap (λ fs. record_of e.content.fixed.codes (in_tag_order (fitting fs))) all in
    subst (λ rec. IfOk c.kept_record.result (λ r. r.0 ≡ rec)) rec c.kept_record.ensures.value

pub returns-clause-left : goal.returns-clause-left
returns-clause-left c =
    subst (λ fs. IfOk c.kept_record.result (λ r. r.1 ≡ length fs - length (fitting fs))) (c.in_ok-all.ensures ∙ c.in_ok-made.ensures.parts) c.kept_record.ensures.left
