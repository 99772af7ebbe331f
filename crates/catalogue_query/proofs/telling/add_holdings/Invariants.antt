use Rattle.std.proofs.Common.{◌≡◌, ◌++◌, take, flat_map}
use Rattle.catalogue_core.specs.Histories.{current}
use Rattle.catalogue_query.specs.Answers.{record_lines}
use Rattle.catalogue_query.proofs.telling.add_holdings.Given as goal

abbrev pub invariant-loop-id : goal.invariant-loop-id
invariant-loop-id l = l.lines.items ≡ l.initial.lines.items ++ flat_map (record_lines (current l.catalogue.history)) (take l.id-index l.id-items)
