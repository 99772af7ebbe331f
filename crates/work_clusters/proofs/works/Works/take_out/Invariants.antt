use Rattle.std.proofs.Common.{take}
use Rattle.work_clusters.specs.Steps.{TakesOut}
use Rattle.work_clusters.proofs.works.Works.take_out.Given as goal

-- the pairs so far left
abbrev pub invariant-loop-key : goal.invariant-loop-key
invariant-loop-key l = TakesOut l.fn.self l.self (take l.key-index l.gone)
