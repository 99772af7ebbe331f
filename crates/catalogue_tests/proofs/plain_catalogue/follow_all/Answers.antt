use Rattle.catalogue_tests.proofs.PlainLaws.{followed-more}
use Rattle.catalogue_tests.proofs.plain_catalogue.follow_all.Goals as goal

pub loop-op-preserved : goal.loop-op-preserved
loop-op-preserved c =
    followed-more c.args.batch.now.library c.args.records.now.entries c.loop-op.records.entries c.follow.new.records.entries c.as_slice-op-items.result.now c.loop-op.op-index c.op-item.result
    c.loop-op.outcomes.items c.push.new.self.items c.in_ok-follow.field-0 c.loop-op.invariant c.loop-op-test.true c.op-item.is
    c.in_ok-follow.ensures.records c.in_ok-follow.ensures.outcome c.in_ok-push.ensures.items
