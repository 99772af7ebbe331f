use Rattle.std.proofs.Common.{◌≡◌, take, map}
use Rattle.catalogue_query.specs.Lines.{edition_line}
use Rattle.catalogue_query.proofs.answering.edition_lines.Given as goal

abbrev pub invariant-loop-id : goal.invariant-loop-id
invariant-loop-id l = l.lines.items ≡ map edition_line (take l.id-index l.ids)
