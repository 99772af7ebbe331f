use Rattle.union_watch.proofs.TurnLaws.{turns-written}
use Rattle.union_watch.proofs.laws.turn_lines_are_history.Goals as goal

pub returns : goal.returns
returns c = turns-written
