use Rattle.std.proofs.Common.{◌≡◌}
use Rattle.work_clusters.proofs.works.Works.drop_empty.Given as goal

-- the works stayed
abbrev pub invariant-loop-key : goal.invariant-loop-key
invariant-loop-key l = l.self.works ≡ l.fn.self.works
