use Rattle.std.proofs.Common.{length}
use Rattle.union_words.proofs.libraries.+have_distinct_codes.Given as goal

abbrev pub decreases-have_distinct_codes : goal.decreases-have_distinct_codes
decreases-have_distinct_codes l = length l.words.now
