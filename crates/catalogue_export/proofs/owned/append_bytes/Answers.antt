use Rattle.std.proofs.Common.{◌≡◌, ◌-◌, Bor, length, map, ap, subst, ◌∙◌}
use Rattle.std.specs.Prelude.{IfOk}
use Rattle.std.specs.List.{list_all}
use Rattle.std.proofs.Math.Seq.{take-length}
use Rattle.union_base.specs.declared.field.Field.{Field}
use Rattle.marc_fields.specs.Appending.{Appends}
use Rattle.marc_fields.specs.Spelling.{is_short, spelling, record_of}
use Rattle.marc_fields.proofs.AppendingLaws.{Appends-refused}
use Rattle.field_merge.specs.declared.content.Content.{Content}
use Rattle.field_merge.specs.declared.fixed.Fixed.{Fixed}
use Rattle.catalogue_export.specs.Exported.{edition_bytes}
use Rattle.catalogue_export.specs.Fitting.{fitting}
use Rattle.catalogue_export.specs.Owners.{owned_content}
use Rattle.catalogue_export.specs.TagOrder.{in_tag_order}
use Rattle.catalogue_export.proofs.OwnersProof.{owned-sound}
use Rattle.catalogue_export.proofs.SoundLaws.{parts-short}
use Rattle.catalogue_export.proofs.owned.append_bytes.Goals as goal

pub returns-in_err-made-clause-text : goal.returns-in_err-made-clause-text
returns-in_err-made-clause-text c =
    let old = c.args.into.now.items in
    Appends-refused c.from_residual.result old old (edition_bytes (owned_content c.args.records.now c.args.edition.now) c.args.key.now)
    c.from_residual.ensures.0 (take-length old)

pub returns-in_err-all-clause-text : goal.returns-in_err-all-clause-text
returns-in_err-all-clause-text c =
    let old = c.args.into.now.items in
    Appends-refused c.from_residual-in_err-all.result old old (edition_bytes (owned_content c.args.records.now c.args.edition.now) c.args.key.now)
    c.from_residual-in_err-all.ensures.0 (take-length old)

pub append_kept-requires : goal.append_kept-requires
append_kept-requires c =
    let records = c.args.records.now in
    let e = c.args.edition.now in
    ap (list_all is_short) (c.in_ok-all.ensures ∙ c.in_ok-made.ensures.parts) ∙ parts-short (owned_content records e) (owned-sound records e) c.args.key.now

pub returns-clause-text : goal.returns-clause-text
returns-clause-text c =
    let see = λ (f : Bor Field). f.now in
    let e = c.args.edition.now in
    let all = c.in_ok-all.ensures ∙ c.in_ok-made.ensures.parts in
    let fixed = c.fixed.ensures.value ∙ ap (λ (k : Content). k.fixed) c.in_ok-made.ensures.content in
    let rec = ap (λ (f : Fixed). record_of f.codes (in_tag_order (fitting (map see c.in_ok-all.all.items)))) fixed ∙ ap (λ fs. record_of e.content.fixed.codes (in_tag_order (fitting fs))) all in
    subst (λ text. Appends c.append_kept.result c.args.into.now.items c.append_kept.new.into.items text) (ap spelling rec) c.append_kept.ensures.text

pub returns-clause-left : goal.returns-clause-left
returns-clause-left c =
    subst (λ fs. IfOk c.append_kept.result (λ n. n ≡ length fs - length (fitting fs))) (c.in_ok-all.ensures ∙ c.in_ok-made.ensures.parts) c.append_kept.ensures.left
