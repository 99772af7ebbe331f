use Rattle.std.proofs.Common.{◌≡◌, ◌≤◌, ◌+◌, List}
use Rattle.std.specs.Prelude.{map}
use Rattle.library_stream.specs.Answering.{Takes}
use Rattle.library_stream.specs.Streaming.{opened, most_ahead}
use Rattle.library_stream.specs.declared.frame_reader.TheConstants.{LARGEST_SOURCE}
use Rattle.names_file.specs.Judging.{Judged}
use Rattle.names_file.specs.NamesFiles.{IsReading}
use Rattle.names_file.proofs.reading.read_frames.Given as goal

-- the frames so far were handed out and read, and nothing failed
abbrev pub invariant-loop-cut : goal.invariant-loop-cut
invariant-loop-cut g l = record {
  name : g.S.Source.name l.source ≡ g.S.Source.name l.initial.source;
  faults : g.S.Source.faults l.source ≡ g.S.Source.faults l.initial.source;
  all : List Judged;
  taken : Takes (opened LARGEST_SOURCE) (g.S.Source.left l.initial.source) l.reader (g.S.Source.left l.source) (map (λ (one : Judged). one.frame) all);
  read : IsReading all l.reading.table l.reading.tally;
  few : l.reading.tally.frames + most_ahead l.reader ≤ LARGEST_SOURCE + 1;
}

abbrev pub decreases-loop-cut : goal.decreases-loop-cut
decreases-loop-cut g l = most_ahead l.reader
