use Rattle.std.proofs.Common.{◌≡◌, ◌++◌, take, map}
use Rattle.catalogue_query.specs.Lines.{hold_line}
use Rattle.catalogue_query.proofs.telling.add_hold_lines.Given as goal

abbrev pub invariant-loop-holding : goal.invariant-loop-holding
invariant-loop-holding l = l.lines.items ≡ l.initial.lines.items ++ map hold_line (take l.holding-index l.holdings)
