use Rattle.std.specs.VecDeque.{deque_len}
use Rattle.union_load.proofs.session_starts.+add_sessions.Given as goal

abbrev pub decreases-add_sessions : goal.decreases-add_sessions
decreases-add_sessions g l = deque_len l.opened.now
