use Rattle.std.proofs.Common.{◌≡◌, sym, ap, subst, ◌∙◌}
use Rattle.std.specs.Prelude.{codes}
use Rattle.union_base.specs.SortedLists.{set_of}
use Rattle.union_base.specs.FieldOrder.{field_cmp}
use Rattle.marc_parts.specs.Parts.{first_under}
use Rattle.field_merge.specs.Equal.{same_contents}
use Rattle.field_merge.specs.Parts.{ArePartsOf}
use Rattle.field_merge.specs.Ranks.{rank}
use Rattle.field_merge.specs.Contents.{fixed_part, content}
use Rattle.field_merge.proofs.Gathering.{some-from_parts, title-is}
use Rattle.field_merge.proofs.making.content_of.Goals as goal

pub unwrap-requires : goal.unwrap-requires
unwrap-requires c =
    some-from_parts c.in_ok-fixed.fixed.rank c.args.rec c.in_ok-parts.parts c.requires
    (subst (λ fields. ArePartsOf c.in_ok-fixed.fixed.rank fields c.in_ok-parts.parts) c.into_vec.ensures c.in_ok-parts.ensures)

pub returns : goal.returns
returns c =
    let prefer = c.args.prefer.now in
    let library = c.args.library.now in
    let r = c.args.rec in
    let fixed : c.in_ok-fixed.fixed ≡ fixed_part (rank prefer library r) r = c.in_ok-fixed.ensures ∙ ap (λ k. fixed_part k r) c.in_ok-rank_of.ensures in
    let parts = subst (λ k. ArePartsOf k r.fields c.in_ok-parts.parts) (ap (λ f. f.rank) fixed)
    (subst (λ fields. ArePartsOf c.in_ok-fixed.fixed.rank fields c.in_ok-parts.parts) c.into_vec.ensures c.in_ok-parts.ensures) in
    same_contents _ (content prefer library r) (record {
      contributors = c.contributors.view_is ∙ c.in_ok-contributors.ensures;
      fixed = fixed;
      f005 = parts.f005;
      f010 = parts.f010;
      f040 = parts.f040;
      f1xx = parts.f1xx;
      f240 = parts.f240;
      f245 = title-is (rank prefer library r) (first_under (codes "245") r.fields) c.unwrap.result (sym parts.f245 ∙ c.unwrap.ensures);
      united = c.in_ok-of.ensures ∙ ap (set_of field_cmp) parts.united;
    })
