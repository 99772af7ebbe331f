use Rattle.std.proofs.Common.{◌≡◌, ◌+◌, ◌≤◌, [], length}
use Rattle.library_stream.specs.declared.course.Course.TheVariants.{Ended, Passed}
use Rattle.library_stream.specs.Streaming.{streaming, most_on}
use Rattle.library_stream.specs.Answering.{Takes}
use Rattle.library_stream.proofs.frame_reader.next_answer.Given as goal

-- nothing was handed out and nothing failed so far
abbrev pub invariant-loop-course : goal.invariant-loop-course
invariant-loop-course g l = record {
  name : g.S.Source.name l.source ≡ g.S.Source.name l.fn.source;
  faults : g.S.Source.faults l.source ≡ g.S.Source.faults l.fn.source;
  ahead : Takes (streaming l.fn.cutter l.fn.piece l.fn.course) (g.S.Source.left l.fn.source)
      (streaming l.cutter l.piece l.course) (g.S.Source.left l.source) [];
  ended : l.fn.course ≡ Ended → l.course ≡ Ended;
  stopped : l.fn.course ≡ Passed → (l.course ≡ Passed) × (l.piece ≡ l.fn.piece);
  bound : length l.piece + most_on l.course ≤ length l.fn.piece + most_on l.fn.course;
}

abbrev pub decreases-loop-course : goal.decreases-loop-course
decreases-loop-course g l = most_on l.course
