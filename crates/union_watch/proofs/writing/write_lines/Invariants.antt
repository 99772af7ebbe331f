use Rattle.std.proofs.Common.{◌≡◌, ℕ, List, ◌++◌, drop, map}
use Rattle.catalogue_export.specs.Writing.{IsWrittenTo}
use Rattle.union_watch.specs.AskLines.{line_meaning}
use Rattle.union_watch.specs.Told.{told_of, told_text_of}
use Rattle.union_watch.proofs.writing.write_lines.Given as goal

-- what is told of the lines before this one was written, or is pending, and what is told of the others makes up the whole
abbrev pub invariant-loop-line : goal.invariant-loop-line
invariant-loop-line g l = record {
  text : List ℕ;
  whole : l.initial.pending.items ++ told_text_of (told_of (map line_meaning l.lines) l.fn.replies)
      ≡ text ++ told_text_of (told_of (map line_meaning (drop l.line-index l.lines)) l.replies.left.now);
  moved : IsWrittenTo text l.pending.items (g.O.Sink.written l.initial.out) (g.O.Sink.written l.out);
  calm : g.O.Sink.faults l.out ≡ g.O.Sink.faults l.initial.out;
}
