use Rattle.std.proofs.Common.{◌≡◌, ◌≤◌, ◌+◌, length}
use Rattle.library_stream.specs.Streaming.{most_ahead}
use Rattle.library_stream.specs.Answering.{Takes}
use Rattle.library_batches.proofs.cutting.cut_block.Given as goal

-- the frames so far were handed out and kept, and nothing failed
abbrev pub invariant-loop-frame : goal.invariant-loop-frame
invariant-loop-frame g l = record {
  name : g.S.Source.name l.source ≡ g.S.Source.name l.initial.source;
  faults : g.S.Source.faults l.source ≡ g.S.Source.faults l.initial.source;
  takes : Takes l.initial.reader (g.S.Source.left l.initial.source) l.reader (g.S.Source.left l.source) l.frames.items;
  count : length l.frames.items ≡ l._frame;
  fewer : most_ahead l.reader + length l.frames.items ≤ most_ahead l.initial.reader;
}
