use Rattle.std.proofs.Common.{◌≡◌, ℕ, ◌+◌, ◌-◌, ◌*◌, ◌<◌, ◌≤◌, length}
use Rattle.union_progress.proofs.line.+grouped.Given as goal

-- the number that is left to write
abbrev pub decreases-grouped : goal.decreases-grouped
decreases-grouped l = l.number
