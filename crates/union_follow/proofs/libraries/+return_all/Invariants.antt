use Rattle.std.specs.VecDeque.{deque_len}
use Rattle.union_follow.proofs.libraries.+return_all.Given as goal

abbrev pub decreases-return_all : goal.decreases-return_all
decreases-return_all g l = deque_len l.opened.now
