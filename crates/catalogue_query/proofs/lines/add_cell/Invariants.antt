use Rattle.std.proofs.Common.{◌≡◌, ◌++◌, take}
use Rattle.catalogue_query.specs.Lines.{cell}
use Rattle.catalogue_query.proofs.lines.add_cell.Given as goal

abbrev pub invariant-loop-byte : goal.invariant-loop-byte
invariant-loop-byte l = l.line.items ≡ l.fn.line.items ++ cell (take l.byte-index l.text)
