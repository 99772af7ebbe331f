use Rattle.std.proofs.Common.{◌≡◌, ◌≤◌, ◌+◌, ◌-◌, ◌^◌, min, length}
use Rattle.union_words.specs.Lines.{lines_of}
use Rattle.union_explain.specs.Runs.{told_lines}
use Rattle.union_explain.proofs.run.told_lines.Given as goal

-- those so far and those that are left are all of them
abbrev pub invariant-loop-line : goal.invariant-loop-line
invariant-loop-line l = record {
  all : min (l.count + told_lines l.lines) (2 ^ 64 - 1) ≡ min (told_lines (lines_of l.text)) (2 ^ 64 - 1);
  within : l.count ≤ 2 ^ 64 - 1;
}

abbrev pub decreases-loop-line : goal.decreases-loop-line
decreases-loop-line l = length l.lines
