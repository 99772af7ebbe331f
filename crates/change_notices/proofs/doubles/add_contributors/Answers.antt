use Rattle.std.specs.BTreeSet.{contains}
use Rattle.union_base.specs.RecordIds.{id_cmp}
use Rattle.change_notices.proofs.DoubleLaws.{added-more}
use Rattle.change_notices.proofs.doubles.add_contributors.Goals as goal

pub loop-id-preserved : goal.loop-id-preserved
loop-id-preserved c =
    λ q.
    added-more (contains id_cmp c.insert.new.self q) (contains id_cmp c.loop-id.seen q) (contains id_cmp c.args.seen.now q) c.as_slice-ids.result.now c.loop-id.id-index
    c.id-item.result c.in_ok-copied.field-0 q (c.in_ok-insert.ensures.updates.0 q) c.in_ok-copied.ensures (c.loop-id.invariant q) c.loop-id-test.true c.id-item.is
