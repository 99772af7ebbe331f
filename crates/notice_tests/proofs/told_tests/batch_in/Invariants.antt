-- each operation so far is of this library
use Rattle.std.proofs.Common.{IsTrue}
use Rattle.std.specs.List.{list_all}
use Rattle.catalogue_core.specs.Batches.{is_own_op}
use Rattle.notice_tests.proofs.told_tests.batch_in.Given as goal

abbrev pub invariant-loop-frame : goal.invariant-loop-frame
invariant-loop-frame l = IsTrue (list_all (is_own_op l.code) l.ops.items)
