use Rattle.std.proofs.Common.{sym}
use Rattle.std.proofs.lemmas.Result.{IfOk-weaker}
use Rattle.merge_tests.proofs.Digits.{digits_beside}
use Rattle.merge_tests.proofs.small_sets.SmallSet.numbers_beside.Goals as goal

pub returns-clause-numbers : goal.returns-clause-numbers
returns-clause-numbers c =
    rw (sym c.mask-own.ensures, sym c.mask.ensures)
    (IfOk-weaker c.digits_of.result _ _
    (λ places had k. (let beside = digits_beside c.mask-own.result c.mask.result k in (λ h. beside.0 ((had k).0 h), λ h. (had k).1 (beside.1 h))))
    c.digits_of.ensures.places)
