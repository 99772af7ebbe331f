use Rattle.library_stream.specs.Streaming.{opened, most_ahead}
use Rattle.library_stream.specs.Answering.{Takes}
use Rattle.record_tests.proofs.library_stream_tests.frames_of.Given as goal

-- the cuts so far and those ahead are those of the source
abbrev pub invariant-loop-cut : goal.invariant-loop-cut
invariant-loop-cut g l =
    Takes (opened l.fn.limit) (g.S.Source.left l.fn.source) l.reader (g.S.Source.left l.source) l.cuts.items

abbrev pub decreases-loop-cut : goal.decreases-loop-cut
decreases-loop-cut g l = most_ahead l.reader
