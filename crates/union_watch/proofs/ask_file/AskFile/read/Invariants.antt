use Rattle.std.proofs.Common.{◌≡◌, ◌++◌, length, map}
use Rattle.std.specs.List.{flat_map}
use Rattle.union_words.specs.Lines.{kept}
use Rattle.union_watch.specs.AskLines.{line_meaning, read_line, question_of, lines_in, questions_in}
use Rattle.union_watch.proofs.ask_file.AskFile.read.Given as goal

-- what was read so far, and after it what the lines that are left come to, is all
abbrev pub invariant-loop-line : goal.invariant-loop-line
invariant-loop-line l = record {
  lines : map line_meaning l.file.lines.items ++ map read_line (kept l.lines) ≡ lines_in l.text;
  questions : l.file.questions.items ++ flat_map question_of (kept l.lines) ≡ questions_in l.text;
}

abbrev pub decreases-loop-line : goal.decreases-loop-line
decreases-loop-line l = length l.lines
