use Rattle.std.proofs.Common.{length}
use Rattle.command_tests.proofs.union_words_tests.own_texts_are_plain_lines.Given as goal

abbrev pub decreases-loop-line : goal.decreases-loop-line
decreases-loop-line g l = length l.lines
