use Rattle.std.specs.VecDeque.{deque_len}
use Rattle.union_follow.proofs.libraries.+load_rest.Given as goal

abbrev pub decreases-load_rest : goal.decreases-load_rest
decreases-load_rest g l = deque_len l.opened.now
