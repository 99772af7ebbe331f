use Rattle.std.proofs.Common.{◌+◌, ◌≤◌, length, sym, ap, ◌∙◌, add-zero, arith}
use Rattle.isbn_keys.proofs.KeyLemmas.{weighted_sum-end}
use Rattle.union_trial.proofs.texts.weighted_sum.Goals as goal

pub returns : goal.returns
returns c =
    let all : length c.args.digits.now ≤ c.loop-place.place = omega arith in
    sym (add-zero c.loop-place.sum)
    ∙ ap (λ rest. c.loop-place.sum + rest) (sym (weighted_sum-end c.args.weights.now c.args.digits.now c.loop-place.place all))
    ∙ c.loop-place.invariant.0
