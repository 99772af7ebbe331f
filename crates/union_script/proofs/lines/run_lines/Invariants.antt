use Rattle.std.proofs.Common.{◌≡◌, List, ◌++◌, length}
use Rattle.std.specs.Prelude.{IfSome}
use Rattle.union_io.specs.Counts.{SameCounts}
use Rattle.union_words.specs.ScriptLines.{ScriptLine}
use Rattle.union_script.specs.Lines.{HasRun}
use Rattle.union_script.specs.Texts.{asked_by, script_of, told_from}
use Rattle.union_script.proofs.lines.run_lines.Given as goal

-- the lines so far were run, and nothing failed
abbrev pub invariant-loop-line : goal.invariant-loop-line
invariant-loop-line g l = record {
  files : g.F.Shelf.files l.shelf ≡ g.F.Shelf.files l.initial.shelf;
  calm : SameCounts (g.F.Shelf.faults l.initial.shelf) (g.F.Shelf.faults l.shelf);
  sound : g.O.Sink.faults l.out ≡ g.O.Sink.faults l.initial.out;
  first : List ScriptLine;
  parts : script_of l.script ≡ first ++ told_from l.union.told (asked_by l.lines);
  run : IfSome (g.F.Shelf.files l.initial.shelf) (λ contents.
      HasRun contents first l.initial.union.catalogue.history l.union.catalogue.history l.refused (g.O.Sink.written l.initial.out) (g.O.Sink.written l.out));
}

abbrev pub decreases-loop-line : goal.decreases-loop-line
decreases-loop-line g l = length l.lines
