use Rattle.std.proofs.Common.{arith}
use Rattle.library_stream.proofs.StepLaws.{reads-open}
use Rattle.library_stream.proofs.frame_reader.read_within.Goals as goal

pub returns-clause-given : goal.returns-clause-given
returns-clause-given g c =
    reads-open _ _ _ _ _ c.in_ok-count.ensures.bytes c.in_ok-count.ensures.size (omega arith)
