use Rattle.std.proofs.Common.{subst}
use Rattle.work_clusters.specs.Works.{AreWorks}
use Rattle.work_clusters.specs.Room.{WorkMap}
use Rattle.work_clusters.proofs.Reading.{works_from_entries}
use Rattle.work_clusters.proofs.works.Works.are_in_order.Goals as goal

pub returns : goal.returns
returns c = subst (λ (v : WorkMap). AreWorks v.works) c.self.view_is (works_from_entries c.self.inside.rows.entries c.self.invariant.well)
