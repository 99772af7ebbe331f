-- one operation for each delivery so far, each of this library
use Rattle.std.proofs.Common.{◌≡◌, IsTrue, length}
use Rattle.std.specs.List.{list_all}
use Rattle.catalogue_core.specs.Batches.{is_own_op}
use Rattle.catalogue_tests.proofs.prepared_tests.batch_with.Given as goal

abbrev pub invariant-loop-delivery : goal.invariant-loop-delivery
invariant-loop-delivery l = record {
  count : length l.ops.items ≡ l.delivery-index;
  own : IsTrue (list_all (is_own_op l.code) l.ops.items);
}
