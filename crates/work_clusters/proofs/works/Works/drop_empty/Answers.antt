use Rattle.std.proofs.Common.{sym, subst}
use Rattle.work_clusters.specs.Works.{AreWorks}
use Rattle.work_clusters.specs.Room.{WorkMap}
use Rattle.work_clusters.proofs.Reading.{works_from_entries}
use Rattle.work_clusters.proofs.works.Works.drop_empty.Goals as goal

pub returns-then-self-len-clause-well : goal.returns-then-self-len-clause-well
returns-then-self-len-clause-well c = subst (λ (v : WorkMap). AreWorks v.works) c.self.view_is (works_from_entries c.self.inside.rows.entries c.self.invariant.well)

pub returns-clause-well : goal.returns-clause-well
returns-clause-well c =
    subst AreWorks (sym c.loop-key.invariant) (subst (λ (v : WorkMap). AreWorks v.works) c.self.view_is (works_from_entries c.self.inside.rows.entries c.self.invariant.well))
