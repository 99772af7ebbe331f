use Rattle.std.proofs.Common.{◌+◌, ◌*◌}
use Rattle.gathered_catalogue.proofs.sorting.+shares.Given as goal

abbrev pub decreases-in_order_by : goal.decreases-in_order_by
decreases-in_order_by g l = 2 * l.workers

abbrev pub decreases-sort_front : goal.decreases-sort_front
decreases-sort_front g l = 2 * l.fewer + 1

abbrev pub decreases-sort_back : goal.decreases-sort_back
decreases-sort_back g l = 2 * l.others + 1
