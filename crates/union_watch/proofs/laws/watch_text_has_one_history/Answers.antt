use Rattle.union_watch.proofs.TurnLaws.{text-is-history}
use Rattle.union_watch.proofs.laws.watch_text_has_one_history.Goals as goal

pub returns : goal.returns
returns c = text-is-history
