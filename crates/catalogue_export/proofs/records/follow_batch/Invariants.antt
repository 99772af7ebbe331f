-- the holdings follow the operations so far
use Rattle.std.proofs.Common.{take}
use Rattle.std.specs.Prelude.{fold}
use Rattle.std.specs.List.Sorted.{IsStrictlySortedBy}
use Rattle.std.specs.Map.{keys_of}
use Rattle.union_base.specs.RecordIds.{id_cmp}
use Rattle.catalogue_editions.specs.declared.edition.Edition.{Edition}
use Rattle.turn_plans.specs.Histories.{MapOf, after_op}
use Rattle.catalogue_export.specs.HeldRecords.{AreHeld}
use Rattle.catalogue_export.proofs.records.follow_batch.Given as goal

abbrev pub invariant-loop-op : goal.invariant-loop-op
invariant-loop-op l =
    (editions : MapOf Edition) → IsStrictlySortedBy id_cmp (keys_of editions) → AreHeld l.initial.holdings.entries editions
    → AreHeld l.holdings.entries (fold (after_op l.batch.library) editions (take l.op-index l.batch.ops))
