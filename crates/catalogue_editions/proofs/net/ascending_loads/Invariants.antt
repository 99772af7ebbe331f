use Rattle.std.proofs.Common.{take}
use Rattle.std.specs.Prelude.{option_copied}
use Rattle.catalogue_editions.proofs.NetLaws.{AreLeft}
use Rattle.catalogue_editions.proofs.net.ascending_loads.Given as goal

-- the operations so far leave these editions
abbrev pub invariant-loop-op : goal.invariant-loop-op
invariant-loop-op l = AreLeft l.batch.library (take l.op-index l.ops) l.editions.items (option_copied l.last)
