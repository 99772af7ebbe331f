use Rattle.std.proofs.Common.{◌≡◌, length, drop}
use Rattle.catalogue_lock.specs.Tokens.{view, IsSamePass}
use Rattle.load_sessions.specs.Askers.{Knows}
use Rattle.load_sessions.proofs.AskLaws.{Leads}
use Rattle.load_sessions.proofs.asking.reply_all.Given as goal

-- the questions so far have their replies
abbrev pub invariant-loop-question : goal.invariant-loop-question
invariant-loop-question g l = record {
  desk : l.pass.place.table_id ≡ l.desk.board.shared.table_id;
  same : IsSamePass l.initial.pass l.pass;
  knows : Knows (view l.initial.pass) (view l.pass);
  leads : Leads (view l.initial.pass).setting (view l.initial.pass).floor l.questions l.replies.items (view l.pass).floor (view l.pass).seen (drop l.question-index l.questions);
  count : length l.replies.items ≡ l.question-index;
}
