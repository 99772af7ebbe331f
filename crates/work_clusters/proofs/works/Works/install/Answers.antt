use Rattle.std.proofs.Common.{subst, ◌∙◌}
use Rattle.work_clusters.specs.Works.{AreWorks}
use Rattle.work_clusters.specs.Steps.{TakesOut, PutsIn}
use Rattle.work_clusters.proofs.Steps.{changed_from_steps}
use Rattle.work_clusters.proofs.works.Works.install.Goals as goal

pub returns : goal.returns
returns c =
    c.drop_empty.ensures.same
    ∙ changed_from_steps c.args.self.now c.take_out.new.self c.put_in.new.self c.args.change.gone c.args.change.come c.take_out.ensures.well (subst AreWorks c.drop_empty.ensures.same c.drop_empty.ensures.well)
    (subst (TakesOut c.args.self.now c.take_out.new.self) c.as_slice.ensures c.take_out.ensures.taken) (subst (PutsIn c.take_out.new.self c.put_in.new.self) c.into_vec.ensures c.put_in.ensures)
