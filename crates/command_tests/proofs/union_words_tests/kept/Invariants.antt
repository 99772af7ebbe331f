use Rattle.std.proofs.Common.{length}
use Rattle.command_tests.proofs.union_words_tests.kept.Given as goal

abbrev pub decreases-loop-line : goal.decreases-loop-line
decreases-loop-line l = length l.lines
