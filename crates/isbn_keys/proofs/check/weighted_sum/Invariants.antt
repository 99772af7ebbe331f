use Rattle.std.proofs.Common.{◌≡◌, ◌+◌, ◌*◌, ◌≤◌, drop}
use Rattle.isbn_keys.specs.Check.{weighted_sum}
use Rattle.isbn_keys.proofs.check.weighted_sum.Given as goal

abbrev pub invariant-loop-place : goal.invariant-loop-place
invariant-loop-place l =
    (l.sum + weighted_sum (drop l.place l.weights) (drop l.place l.characters) ≡ weighted_sum l.weights l.characters)
    × (l.sum ≤ 65025 * l.place)
