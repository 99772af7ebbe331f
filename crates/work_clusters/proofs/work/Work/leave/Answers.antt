use Rattle.std.proofs.Common.{arith, not, ap, ◌∙◌}
use Rattle.std.specs.Ordering.{eq_by_cmp}
use Rattle.union_base.specs.IdLaws.{ids_apart}
use Rattle.union_base.specs.SortedLists.{is_ascending}
use Rattle.union_base.specs.RecordIds.{id_cmp}
use Rattle.work_clusters.proofs.WorksLaws.{id_total}
use Rattle.work_clusters.proofs.IdLists.{is_ascending-filter}
use Rattle.work_clusters.proofs.work.Work.leave.Goals as goal

pub returns-clause-ascending : goal.returns-clause-ascending
returns-clause-ascending c =
    ap (is_ascending id_cmp) c.leave.ensures.left ∙ is_ascending-filter id_total ids_apart (λ other. not (eq_by_cmp id_cmp c.args.id.now other)) c.self.inside.editions.items c.self.invariant.0

pub invariant_of-self : goal.invariant_of-self
invariant_of-self c = (returns-clause-ascending c, omega (arith, c.self.invariant.1, c.leave.ensures.shorter, c.leave.ensures.capacity))
