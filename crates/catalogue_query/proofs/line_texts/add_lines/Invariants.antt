use Rattle.std.proofs.Common.{◌≡◌, ◌++◌}
use Rattle.std.specs.Prelude.{take}
use Rattle.catalogue_query.specs.LineTexts.{ended_lines}
use Rattle.catalogue_query.proofs.line_texts.add_lines.Given as goal

-- the lines so far were added
abbrev pub invariant-loop-line : goal.invariant-loop-line
invariant-loop-line l = l.text.items ≡ l.initial.text.items ++ ended_lines (take l.line-index l.lines)
