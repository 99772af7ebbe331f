use Rattle.std.proofs.Common.{[], length, append-nil, subst}
use Rattle.std.specs.FinMap.{empty}
use mathlib.Core.List.{IsPrefix}
use Rattle.catalogue_core.specs.Entries.{entries_of}
use Rattle.snapshot_desk.proofs.Prefixes.{prefix_length}
use Rattle.load_sessions.proofs.ReplyLaws.{replied_over}
use Rattle.union_follow.proofs.following.ask_late.Goals as goal

pub returns-clause-replied : goal.returns-clause-replied
returns-clause-replied c =
    let seen = entries_of c.view_all.new.viewer.seen in
    let published = c.args.load.now.publisher.published in
    let learnt = c.learn.new.self.learnt in
    replied_over empty seen seen (length published) (length learnt) c.args.questions.now c.view_all.new.replies.items ([], append-nil seen)
    (prefix_length published learnt (subst (λ told. IsPrefix told.published learnt) c.tell.ensures c.learn.ensures.told))
    c.in_ok-view_all.ensures.replied
