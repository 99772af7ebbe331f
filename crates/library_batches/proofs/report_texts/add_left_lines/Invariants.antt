use Rattle.std.proofs.Common.{◌≡◌, ◌++◌}
use Rattle.std.specs.Prelude.{take}
use Rattle.std.specs.List.{flat_map}
use Rattle.library_batches.specs.Reports.{left_line}
use Rattle.library_batches.proofs.report_texts.add_left_lines.Given as goal

-- a line for each that was gone over
abbrev pub invariant-loop-line : goal.invariant-loop-line
invariant-loop-line l = l.text.items ≡ l.initial.text.items ++ flat_map left_line (take l.line-index l.left)
