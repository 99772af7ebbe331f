use Rattle.library_stream.specs.Streaming.{most_ahead}
use Rattle.load_tests.proofs.library_batches_tests.batches_in_rounds.Given as goal

abbrev pub decreases-loop-batches : goal.decreases-loop-batches
decreases-loop-batches g l = most_ahead l.reader.stream
