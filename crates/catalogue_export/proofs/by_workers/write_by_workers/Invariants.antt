use Rattle.std.proofs.Common.{◌≤◌, ◌-◌, drop, length}
use Rattle.catalogue_export.specs.Sources.{left_of_one}
use Rattle.catalogue_export.proofs.ExportLaws.{IsExportedTo}
use Rattle.catalogue_export.proofs.by_workers.write_by_workers.Given as goal

-- the editions before this place were exported
abbrev pub invariant-rounds : goal.invariant-rounds
invariant-rounds g l = record {
  within : l.done ≤ length l.listing.editions.now;
  exported : IsExportedTo (g.F.ExportForm.shown l.listing.sources.now) (left_of_one l.listing.sources.now) l.listing.editions.now (drop l.done l.listing.editions.now)
      (record { old = g.O.Sink.written l.initial.out; new = g.O.Sink.written l.out; before = g.O.Sink.faults l.initial.out; after = g.O.Sink.faults l.out })
      l.initial.left.items l.left.items;
}

abbrev pub decreases-rounds : goal.decreases-rounds
decreases-rounds g l = length l.listing.editions.now - l.done
