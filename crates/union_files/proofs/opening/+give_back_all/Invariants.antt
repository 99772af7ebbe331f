use Rattle.std.specs.VecDeque.{deque_len}
use Rattle.union_files.proofs.opening.+give_back_all.Given as goal

abbrev pub decreases-give_back_all : goal.decreases-give_back_all
decreases-give_back_all g l = deque_len l.opened.now
