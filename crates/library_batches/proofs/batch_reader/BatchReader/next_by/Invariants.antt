use Rattle.std.proofs.Common.{◌≡◌, ◌≤◌}
use Rattle.library_stream.specs.Streaming.{most_ahead}
use Rattle.library_batches.specs.Passing.{Passes}
use Rattle.library_batches.proofs.batch_reader.BatchReader.next_by.Given as goal

-- blocks without a batch were passed, and nothing failed
abbrev pub invariant-loop-ops : goal.invariant-loop-ops
invariant-loop-ops g l = record {
  name : g.S.Source.name l.source ≡ g.S.Source.name l.initial.source;
  faults : g.S.Source.faults l.source ≡ g.S.Source.faults l.initial.source;
  prefer : l.self.prefer ≡ l.initial.self.prefer;
  library : l.self.library ≡ l.initial.self.library;
  passed : Passes l.initial.self (g.S.Source.left l.initial.source) l.self (g.S.Source.left l.source);
  fewer : most_ahead l.self.stream ≤ most_ahead l.initial.self.stream;
}

abbrev pub decreases-loop-ops : goal.decreases-loop-ops
decreases-loop-ops g l = most_ahead l.self.stream
