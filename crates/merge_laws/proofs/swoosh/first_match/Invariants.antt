-- none of the values before the place at hand matches, and each cost one test
use Rattle.std.proofs.Common.{◌≡◌, ◌+◌, ◌≤◌, false}
use Rattle.std.specs.List.{AllWithin}
use Rattle.merge_laws.proofs.swoosh.first_match.Given as goal

abbrev pub invariant-loop-i : goal.invariant-loop-i
invariant-loop-i g l = (l.steps ≤ l.initial.steps + l.i) × AllWithin (λ x. g.R.Resolvable.meets l.value x ≡ false) l.done 0 l.i
