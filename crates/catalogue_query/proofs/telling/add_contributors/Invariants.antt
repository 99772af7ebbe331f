use Rattle.std.proofs.Common.{◌≡◌, ◌++◌, take, map}
use Rattle.catalogue_query.specs.Lines.{by_line}
use Rattle.catalogue_query.proofs.telling.add_contributors.Given as goal

abbrev pub invariant-loop-id : goal.invariant-loop-id
invariant-loop-id l = l.lines.items ≡ l.initial.lines.items ++ map by_line (take l.id-index l.ids)
