use Rattle.std.proofs.Common.{◌+◌, ◌*◌}
use Rattle.key_groups.proofs.pairs.+pairing.Given as goal

abbrev pub decreases-pairs_by : goal.decreases-pairs_by
decreases-pairs_by g l = 2 * l.workers

abbrev pub decreases-pair_front : goal.decreases-pair_front
decreases-pair_front g l = 2 * l.fewer + 1

abbrev pub decreases-pair_back : goal.decreases-pair_back
decreases-pair_back g l = 2 * l.others + 1
