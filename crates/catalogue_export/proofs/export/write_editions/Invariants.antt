use Rattle.std.proofs.Common.{◌≡◌, ◌++◌, map, take}
use Rattle.std.specs.List.{flat_map}
use Rattle.catalogue_export.specs.Sources.{left_of}
use Rattle.catalogue_export.specs.Writing.{IsWrittenTo}
use Rattle.catalogue_export.proofs.export.write_editions.Given as goal

-- the editions before this place were written, or are pending
abbrev pub invariant-loop-edition : goal.invariant-loop-edition
invariant-loop-edition g l = record {
  moved : IsWrittenTo (flat_map (g.F.ExportForm.shown l.sources) (take l.edition-index (map (λ e. e.now) l.editions))) l.pending.items (g.O.Sink.written l.initial.out) (g.O.Sink.written l.out);
  calm : g.O.Sink.faults l.out ≡ g.O.Sink.faults l.initial.out;
  left : l.left.items ≡ l.initial.left.items ++ left_of l.sources (take l.edition-index (map (λ e. e.now) l.editions));
}
