use Rattle.std.proofs.Common.{◌≡◌, [], take}
use Rattle.std.specs.Prelude.{fold}
use Rattle.catalogue_editions.specs.CurrentRecords.{after_op}
use Rattle.catalogue_editions.proofs.net.left_by.Given as goal

abbrev pub invariant-loop-op : goal.invariant-loop-op
invariant-loop-op l = l.left.entries ≡ fold (after_op l.batch.library) [] (take l.op-index l.op-items)
