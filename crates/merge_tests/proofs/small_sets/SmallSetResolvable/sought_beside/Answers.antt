use Rattle.std.proofs.Common.{sym, ◌∙◌}
use Rattle.std.proofs.lemmas.Bool.{true≢false}
use Rattle.std.proofs.lemmas.Result.{IfOk-weaker}
use Rattle.merge_tests.specs.SmallSets.{seeking_laws, number_laws}
use Rattle.merge_tests.proofs.small_sets.SmallSetResolvable.sought_beside.Goals as goal

-- the common number of the set and what it meets is not in the base, which does not meet this
pub returns-clause-whole : goal.returns-clause-whole
returns-clause-whole c =
    IfOk-weaker c.numbers_beside.result _ _
    (λ keys had x met apart. (let (k, mine, its) = seeking_laws.matching c.args.self.now x met in
    (k, (had k).1 (mine, λ h. true≢false (sym ((number_laws.shared c.args.base.now x).1 (k, h, its)) ∙ apart)), its)))
    c.numbers_beside.ensures.numbers
