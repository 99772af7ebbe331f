use Rattle.std.proofs.Common.{arith, ap, ◌∙◌}
use Rattle.union_base.specs.SortedLists.{is_ascending}
use Rattle.union_base.proofs.SortedListLaws.{is_ascending-put}
use Rattle.union_base.specs.RecordIds.{id_cmp}
use Rattle.work_clusters.proofs.WorksLaws.{id_total}
use Rattle.work_clusters.proofs.work.Work.enter.Goals as goal

pub returns-clause-ascending : goal.returns-clause-ascending
returns-clause-ascending c = ap (is_ascending id_cmp) c.enter.ensures.entered ∙ is_ascending-put id_total c.args.id c.self.inside.editions.items c.self.invariant.0

pub invariant_of-self : goal.invariant_of-self
invariant_of-self c = (returns-clause-ascending c, omega (arith, c.self.invariant.1, c.enter.ensures.longer, c.enter.ensures.capacity, c.requires, ap (λ w. w.room) c.self.view_is))
