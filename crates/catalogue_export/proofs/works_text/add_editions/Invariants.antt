use Rattle.std.proofs.Common.{◌≡◌, ◌++◌}
use Rattle.std.specs.Prelude.{take}
use Rattle.std.specs.List.{flat_map}
use Rattle.catalogue_export.specs.WorkLists.{edition_line}
use Rattle.catalogue_export.proofs.works_text.add_editions.Given as goal

-- a line for each that was gone over
abbrev pub invariant-loop-id : goal.invariant-loop-id
invariant-loop-id l = l.text.items ≡ l.initial.text.items ++ flat_map edition_line (take l.id-index l.editions)
