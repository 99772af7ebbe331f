use Rattle.std.proofs.Common.{◌≡◌, ◌*◌, ◌≤◌, length, map, take}
use Rattle.catalogue_export.specs.Editions.{export_text}
use Rattle.union_trial.proofs.measuring.records_size.Given as goal

-- the records of the editions before this place are counted
abbrev pub invariant-loop-edition : goal.invariant-loop-edition
invariant-loop-edition l = record {
  sized : l.size ≡ length (export_text l.catalogue.names (take l.edition-index (map (λ e. e.now) l.editions)));
  within : l.size ≤ 99999 * l.edition-index;
}
