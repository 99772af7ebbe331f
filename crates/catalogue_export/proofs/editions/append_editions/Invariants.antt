use Rattle.std.proofs.Common.{◌≡◌, ◌++◌, map, take}
use Rattle.std.specs.List.{flat_map}
use Rattle.catalogue_export.specs.Sources.{left_of}
use Rattle.catalogue_export.proofs.editions.append_editions.Given as goal

abbrev pub invariant-loop-edition : goal.invariant-loop-edition
invariant-loop-edition g l = record {
  text : l.into.items ≡ l.initial.into.items ++ flat_map (g.F.ExportForm.shown l.sources) (take l.edition-index (map (λ e. e.now) l.editions));
  left : l.left.items ≡ l.initial.left.items ++ left_of l.sources (take l.edition-index (map (λ e. e.now) l.editions));
}
