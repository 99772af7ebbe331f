use Rattle.std.proofs.Common.{sym, ap, ◌∙◌, cond, Some}
use Rattle.std.specs.Prelude.{Option}
use Rattle.union_base.specs.declared.record_id.RecordId.{RecordId}
use Rattle.catalogue_editions.specs.Ids.{least}
use Rattle.change_notices.proofs.DoubleLaws.{bears}
use Rattle.change_notices.proofs.NoticeLaws.{last-more}
use Rattle.change_notices.proofs.notice.names_of.Goals as goal

pub loop-edition-preserved : goal.loop-edition-preserved
loop-edition-preserved c =
    λ q.
    let e = c.edition-item.result in
    c.in_ok-name_contributors.ensures q ∙ ap (λ (o : Option RecordId). cond (bears q e) (Some (least e)) o) (c.loop-edition.invariant q)
    ∙ sym (last-more c.args.editions.now c.loop-edition.edition-index e q c.loop-edition-test.true c.edition-item.is)
