use Rattle.std.proofs.Common.{[], length, append-nil, subst, arith}
use Rattle.std.specs.FinMap.{empty}
use Rattle.catalogue_query.specs.Replies.{Replied}
use Rattle.catalogue_core.specs.Entries.{entries_of}
use Rattle.load_sessions.proofs.ReplyLaws.{replied_over}
use Rattle.union_follow.proofs.following.ask_beside.Goals as goal

pub returns-clause-replied : goal.returns-clause-replied
returns-clause-replied g c =
    let seen = entries_of c.view_all.new.viewer.seen in
    let known = length c.args.asking.now.viewer.learnt in
    let replies = c.view_all.new.replies.items in
    replied_over empty seen seen 0 known c.args.asking.now.questions.items replies ([], append-nil seen) (omega arith)
    (subst (λ questions. Replied empty seen known questions replies) c.as_slice.ensures.value c.view_all.ensures.replied)
