use Rattle.std.specs.VecDeque.{deque_len}
use Rattle.union_load.proofs.session_ends.+end_sessions.Given as goal

abbrev pub decreases-end_sessions : goal.decreases-end_sessions
decreases-end_sessions g l = deque_len l.sessions.now
