use Rattle.std.proofs.Common.{◌≤◌}
use Rattle.catalogue_lock.specs.Tokens.{IsPassOf}
use Rattle.load_tests.proofs.catalogue_lock_tests.work.Given as goal

abbrev pub invariant-loop-k : goal.invariant-loop-k
invariant-loop-k g l = IsPassOf l.pass l.desk × (l.done ≤ l.k) × (l.answered ≤ l.k)
