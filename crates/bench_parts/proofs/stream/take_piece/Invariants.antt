use Rattle.std.proofs.Common.{length}
use Rattle.bench_parts.proofs.stream.take_piece.Given as goal

-- each turn takes some of what is left
abbrev pub decreases-loop-rest : goal.decreases-loop-rest
decreases-loop-rest g l = length l.rest
