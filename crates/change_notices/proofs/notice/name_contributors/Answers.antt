use Rattle.std.proofs.Common.{◌∙◌}
use Rattle.std.specs.BTreeMap.{get}
use Rattle.union_base.specs.RecordIds.{id_cmp}
use Rattle.catalogue_editions.specs.Ids.{least}
use Rattle.change_notices.proofs.NoticeLaws.{named-more}
use Rattle.change_notices.proofs.notice.name_contributors.Goals as goal

pub loop-id-preserved : goal.loop-id-preserved
loop-id-preserved c =
    λ q.
    named-more (get id_cmp c.insert.new.self q) (get id_cmp c.loop-id.names q) (get id_cmp c.args.names.now q) c.as_slice-ids.result.now c.loop-id.id-index
    c.id-item.result c.in_ok-copied.field-0 q (least c.args.edition.now) c.in_ok-copied-2.field-0 (c.in_ok-insert.ensures.updates.0 q) c.in_ok-copied.ensures
    (c.in_ok-copied-2.ensures ∙ c.least.ensures) (c.loop-id.invariant q) c.loop-id-test.true c.id-item.is
