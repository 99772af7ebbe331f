use Rattle.std.proofs.Common.{◌+◌, ◌*◌}
use Rattle.swoosh_halves.proofs.halves.+halves.Given as goal

abbrev pub decreases-resolve_large : goal.decreases-resolve_large
decreases-resolve_large g l = 2 * l.workers

abbrev pub decreases-resolve_front : goal.decreases-resolve_front
decreases-resolve_front g l = 2 * l.fewer + 1

abbrev pub decreases-resolve_back : goal.decreases-resolve_back
decreases-resolve_back g l = 2 * l.others + 1
