use Rattle.std.proofs.Common.{◌≡◌, ◌≤◌, ◌+◌, List}
use Rattle.library_stream.specs.Answering.{Takes}
use Rattle.library_stream.specs.Streaming.{opened, most_ahead}
use Rattle.library_stream.specs.declared.frame_reader.TheConstants.{LARGEST_SOURCE}
use Rattle.library_batches.specs.Streams.{Frame}
use Rattle.union_watch.specs.Tallies.{IsTally}
use Rattle.union_watch.proofs.check.count_frames.Given as goal

-- the frames so far were handed out and counted, and nothing failed
abbrev pub invariant-loop-cut : goal.invariant-loop-cut
invariant-loop-cut g l = record {
  name : g.S.Source.name l.source ≡ g.S.Source.name l.initial.source;
  faults : g.S.Source.faults l.source ≡ g.S.Source.faults l.initial.source;
  all : List Frame;
  taken : Takes (opened LARGEST_SOURCE) (g.S.Source.left l.initial.source) l.reader (g.S.Source.left l.source) all;
  counted : IsTally all l.tally;
  few : l.tally.frames + most_ahead l.reader ≤ LARGEST_SOURCE + 1;
}

abbrev pub decreases-loop-cut : goal.decreases-loop-cut
decreases-loop-cut g l = most_ahead l.reader
