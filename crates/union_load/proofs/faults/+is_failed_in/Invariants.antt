use Rattle.std.specs.Prelude.{length}
use Rattle.union_load.proofs.faults.+is_failed_in.Given as goal

abbrev pub decreases-is_failed_in : goal.decreases-is_failed_in
decreases-is_failed_in g l = length l.sessions.now
