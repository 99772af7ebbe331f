use Rattle.std.proofs.Common.{◌≡◌, ◌≤◌, ◌∷◌, [], length, drop, suc, ◌+◌, ◌<◌, refl, sym, ap, subst, ◌∙◌, arith, append-nil, length-append, drop-cons, add-one}
use Rattle.std.specs.FinMap.{empty}
use Rattle.std.proofs.lemmas.List.{length-map}
use Rattle.catalogue_query.specs.Replies.{Replied}
use Rattle.catalogue_core.specs.Entries.{entries_of}
use Rattle.load_sessions.proofs.AskLaws.{Leads, Leads-none, Leads-more, Leads-ends, IsPrefix-same}
use Rattle.snapshot_desk.proofs.Prefixes.{prefix_trans, prefix_length}
use Rattle.union_follow.proofs.EntryLaws.{answer_told, entries_prefix}
use Rattle.union_follow.proofs.asking.view_all.Goals as goal

pub loop-question-init : goal.loop-question-init
loop-question-init c =
    let viewer = c.args.viewer.now in
    let known = length viewer.learnt in
    record {
      book = refl;
      seen = ([], append-nil viewer.seen);
      bound = known;
      leads = Leads-none empty known c.args.questions.now c.args.replies.now.items (entries_of viewer.seen) c.requires.none;
      above = λ next seen learnt. prefix_length viewer.learnt next learnt;
      count = ap length c.requires.none;
    }

pub loop-question-preserved : goal.loop-question-preserved
loop-question-preserved c =
    let before = c.loop-question.invariant in
    let cur = c.loop-question.viewer in
    let new = c.view.new.self in
    let known = length c.args.viewer.now.learnt in
    let questions = c.args.questions.now in
    let place = c.loop-question.question-index in
    let says = c.in_ok-reply.ensures in
    let reply = c.in_ok-reply.reply in
    let question = c.question-item.result in
    let inside : place < length questions = c.loop-question-test.true in
    let first : drop place questions ≡ question ∷ drop (place + 1) questions =
    drop-cons questions place question inside ∙ ap (λ q. q ∷ drop (suc place) questions) (sym c.question-item.is)
    ∙ ap (λ n. question ∷ drop n questions) (sym (add-one place)) in
    record {
      book = says.book ∙ before.book;
      seen = prefix_trans c.args.viewer.now.seen cur.seen new.seen before.seen says.seen;
      bound = length new.seen;
      leads = subst (λ told. Leads empty known questions told (length new.seen) (entries_of new.seen) (drop (place + 1) questions)) (sym c.in_ok-push.ensures.items)
          (Leads-more empty known questions c.loop-question.replies.items before.bound (length new.seen) (entries_of cur.seen) (entries_of new.seen) question (drop (place + 1) questions) reply
          (subst (Leads empty known questions c.loop-question.replies.items before.bound (entries_of cur.seen)) first before.leads)
          (entries_prefix cur.seen new.seen says.seen)
          (subst (λ n. before.bound ≤ n) (sym says.count) (before.above new.seen says.seen says.told))
          (says.count ∙ sym (length-map new.seen _)) (sym says.count) (answer_told new.seen question reply.1 says.answer));
      above = λ next seen learnt. prefix_length new.seen next seen;
      count = omega (arith, before.count, ap length c.in_ok-push.ensures.items, length-append c.loop-question.replies.items (reply ∷ []));
    }

pub returns-in_err-reply-clause-replied : goal.returns-in_err-reply-clause-replied
returns-in_err-reply-clause-replied c =
    let before = c.loop-question.invariant in
    Leads-ends empty (length c.args.viewer.now.learnt) c.args.questions.now c.loop-question.replies.items before.bound (entries_of c.loop-question.viewer.seen)
    (entries_of c.view.new.self.seen) (drop c.loop-question.question-index c.args.questions.now) before.leads
    (entries_prefix c.loop-question.viewer.seen c.view.new.self.seen c.in_err-reply.ensures.seen)

pub returns-in_err-push-clause-replied : goal.returns-in_err-push-clause-replied
returns-in_err-push-clause-replied c =
    let before = c.loop-question.invariant in
    let known = length c.args.viewer.now.learnt in
    subst (Replied empty (entries_of c.view.new.self.seen) known c.args.questions.now) (sym c.in_err-push.ensures.items)
    (Leads-ends empty known c.args.questions.now c.loop-question.replies.items before.bound (entries_of c.loop-question.viewer.seen)
    (entries_of c.view.new.self.seen) (drop c.loop-question.question-index c.args.questions.now) before.leads
    (entries_prefix c.loop-question.viewer.seen c.view.new.self.seen c.in_ok-reply.ensures.seen))

pub returns-clause-replied : goal.returns-clause-replied
returns-clause-replied c =
    let before = c.loop-question.invariant in
    let seen = entries_of c.loop-question.viewer.seen in
    Leads-ends empty (length c.args.viewer.now.learnt) c.args.questions.now c.loop-question.replies.items before.bound seen seen
    (drop c.loop-question.question-index c.args.questions.now) before.leads (IsPrefix-same seen)

pub returns-in_err-reply-clause-seen : goal.returns-in_err-reply-clause-seen
returns-in_err-reply-clause-seen c = prefix_trans c.args.viewer.now.seen c.loop-question.viewer.seen c.view.new.self.seen c.loop-question.invariant.seen c.in_err-reply.ensures.seen

pub returns-in_err-push-clause-seen : goal.returns-in_err-push-clause-seen
returns-in_err-push-clause-seen c = prefix_trans c.args.viewer.now.seen c.loop-question.viewer.seen c.view.new.self.seen c.loop-question.invariant.seen c.in_ok-reply.ensures.seen
