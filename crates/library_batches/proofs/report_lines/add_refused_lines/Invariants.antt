use Rattle.std.proofs.Common.{◌≡◌, ◌++◌, take}
use Rattle.library_batches.specs.Reports.{refused_lines}
use Rattle.library_batches.proofs.report_lines.add_refused_lines.Given as goal

abbrev pub invariant-loop-frame : goal.invariant-loop-frame
invariant-loop-frame l = l.text.items ≡ l.initial.text.items ++ refused_lines l.library (take l.frame-index l.frames)
