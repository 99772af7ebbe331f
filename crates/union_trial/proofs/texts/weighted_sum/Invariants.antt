use Rattle.std.proofs.Common.{◌≡◌, ◌+◌, ◌*◌, ◌≤◌, drop}
use Rattle.isbn_keys.specs.Check.{weighted_sum}
use Rattle.union_trial.proofs.texts.weighted_sum.Given as goal

abbrev pub invariant-loop-place : goal.invariant-loop-place
invariant-loop-place l =
    (l.sum + weighted_sum (drop l.place l.weights) (drop l.place l.digits) ≡ weighted_sum l.weights l.digits)
    × (l.sum ≤ 65025 * l.place)
