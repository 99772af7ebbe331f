use Rattle.std.proofs.Common.{sym}
use Rattle.merge_tests.specs.SmallSets.{numbers_exact}
use Rattle.merge_tests.proofs.Digits.{digits_kept}
use Rattle.merge_tests.proofs.small_sets.SmallSet.has_all.Goals as goal

pub returns : goal.returns
returns c same k =
    rw (sym c.mask.ensures, sym c.mask-whole.ensures) (digits_kept c.mask.result c.mask-whole.result (numbers_exact _ _ same) k)
