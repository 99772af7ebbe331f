use Rattle.record_homes.proofs.TouchedLaws.{grows-next}
use Rattle.record_homes.proofs.ascending_ids.AscendingIds.into_tree.Goals as goal

pub loop-id-preserved : goal.loop-id-preserved
loop-id-preserved c =
    grows-next c.loop-id.invariant c.in-Some.id c.in-Some.place c.next.new.self.rest.items c.insert.new.self.entries c.in-Some.ensures.steps.0 c.in_ok-insert.ensures.entries
