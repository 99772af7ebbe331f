use Rattle.std.proofs.Common.{◌+◌, ◌-◌, ◌*◌}
use Rattle.swoosh_halves.proofs.halves.+shares.Given as goal

abbrev pub decreases-resolve_groups : goal.decreases-resolve_groups
decreases-resolve_groups g l = 3 * l.workers

abbrev pub decreases-resolve_shares : goal.decreases-resolve_shares
decreases-resolve_shares g l = 3 * (l.fewer + l.others) - 1

abbrev pub decreases-resolve_shares-resolve_front : goal.decreases-resolve_shares-resolve_front
decreases-resolve_shares-resolve_front g l = 3 * l.fewer + 1

abbrev pub decreases-resolve_shares-resolve_back : goal.decreases-resolve_shares-resolve_back
decreases-resolve_shares-resolve_back g l = 3 * l.others + 1
