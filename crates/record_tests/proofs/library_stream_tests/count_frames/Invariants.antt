use Rattle.std.proofs.Common.{◌≡◌, ℕ, suc, ◌+◌, ◌≤◌, List, length}
use Rattle.iso2709_frame.specs.declared.cut.Cut.{Cut}
use Rattle.library_stream.specs.Streaming.{opened, most_ahead}
use Rattle.library_stream.specs.Answering.{Takes}
use Rattle.record_tests.proofs.library_stream_tests.count_frames.Given as goal

-- `count` frames were handed out, and they and those ahead are the frames of the source
abbrev pub invariant-loop-count : goal.invariant-loop-count
invariant-loop-count g l = record {
  name : g.S.Source.name l.source ≡ g.S.Source.name l.fn.source;
  faults : g.S.Source.faults l.source ≡ g.S.Source.faults l.fn.source;
  handed : List (Cut × List ℕ);
  takes : Takes (opened l.fn.limit) (g.S.Source.left l.fn.source) l.reader (g.S.Source.left l.source) handed;
  count : length handed ≡ l.count;
  bound : l.count + most_ahead l.reader ≤ suc l.fn.limit;
}

abbrev pub decreases-loop-count : goal.decreases-loop-count
decreases-loop-count g l = most_ahead l.reader
