use Rattle.std.proofs.Common.{◌≡◌}
use Rattle.swoosh_resolver.specs.Tables.{values_of}
use Rattle.swoosh_halves.proofs.both.values_in.Given as goal

abbrev pub invariant-loop-entry : goal.invariant-loop-entry
invariant-loop-entry g l = l.values.items ≡ values_of l.yielded
