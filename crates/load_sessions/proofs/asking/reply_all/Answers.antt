use Rattle.std.proofs.Common.{◌≡◌, ◌<◌, ◌∷◌, [], length, drop, suc, ◌+◌, refl, sym, ap, subst, ◌∙◌, arith, length-append, drop-cons, add-one}
use Rattle.catalogue_lock.specs.Tokens.{view}
use Rattle.catalogue_query.specs.Replies.{Replied, tells}
use Rattle.load_sessions.proofs.AskLaws.{Leads, Leads-none, Leads-more, Leads-ends, IsPrefix-more, IsPrefix-same}
use Rattle.load_sessions.proofs.asking.reply_all.Goals as goal

pub returns-in_err-reply-clause-replied : goal.returns-in_err-reply-clause-replied
returns-in_err-reply-clause-replied g c =
    let pass = view c.loop-question.pass in
    Leads-ends (view c.args.pass.now).setting (view c.args.pass.now).floor c.args.questions.now c.loop-question.replies.items pass.floor pass.seen (view c.ask.new.pass).seen
    (drop c.loop-question.question-index c.args.questions.now) c.loop-question.invariant.leads c.in_err-reply.ensures.memory.seen

pub returns-in_err-push-clause-replied : goal.returns-in_err-push-clause-replied
returns-in_err-push-clause-replied g c =
    let pass = view c.loop-question.pass in
    let known = (view c.args.pass.now).floor in
    subst (Replied (view c.args.pass.now).setting (view c.ask.new.pass).seen known c.args.questions.now) (sym c.in_err-push.ensures.items)
    (Leads-ends (view c.args.pass.now).setting known c.args.questions.now c.loop-question.replies.items pass.floor pass.seen (view c.ask.new.pass).seen
    (drop c.loop-question.question-index c.args.questions.now) c.loop-question.invariant.leads c.in_ok-reply.ensures.ok.seen)

pub loop-question-preserved : goal.loop-question-preserved
loop-question-preserved g c =
    let before = c.loop-question.invariant in
    let pass = view c.loop-question.pass in
    let now = view c.ask.new.pass in
    let known = (view c.args.pass.now).floor in
    let questions = c.args.questions.now in
    let place = c.loop-question.question-index in
    let says = c.in_ok-reply.ensures.ok in
    let question = c.question-item.result in
    let inside : place < length questions = c.loop-question-test.true in
    let first : drop place questions ≡ question ∷ drop (place + 1) questions =
    drop-cons questions place question inside ∙ ap (λ q. q ∷ drop (suc place) questions) (sym c.question-item.is)
    ∙ ap (λ n. question ∷ drop n questions) (sym (add-one place)) in
    record {
      desk = c.ask.ensures.desk;
      same = (c.ask.ensures.same.0 ∙ before.same.0, c.ask.ensures.same.1 ∙ before.same.1);
      knows = record {
        own = says.own ∙ before.knows.own;
        seen = IsPrefix-more (view c.args.pass.now).seen pass.seen now.seen before.knows.seen says.seen;
        floor = omega (arith, before.knows.floor, says.later, says.floor);
      };
      leads = subst (λ told. Leads (view c.args.pass.now).setting known questions told now.floor now.seen (drop (place + 1) questions)) (sym c.in_ok-push.ensures.items)
          (Leads-more (view c.args.pass.now).setting known questions c.loop-question.replies.items pass.floor now.floor pass.seen now.seen question (drop (place + 1) questions) c.in_ok-reply.reply
          (subst (Leads (view c.args.pass.now).setting known questions c.loop-question.replies.items pass.floor pass.seen) first before.leads) says.seen says.later says.turns_is says.floor
          (subst (λ names. tells names now.seen question c.in_ok-reply.reply.1) before.same.1 says.answer_is));
      count = omega (arith, before.count, ap length c.in_ok-push.ensures.items, length-append c.loop-question.replies.items (c.in_ok-reply.reply ∷ []));
    }

pub returns-clause-replied : goal.returns-clause-replied
returns-clause-replied g c =
    let pass = view c.loop-question.pass in
    Leads-ends (view c.args.pass.now).setting (view c.args.pass.now).floor c.args.questions.now c.loop-question.replies.items pass.floor pass.seen pass.seen
    (drop c.loop-question.question-index c.args.questions.now) c.loop-question.invariant.leads (IsPrefix-same pass.seen)

pub loop-question-init : goal.loop-question-init
loop-question-init g c =
    let pass = view c.args.pass.now in
    record {
      desk = c.requires.desk;
      same = (refl, refl);
      knows = record { own = refl; seen = IsPrefix-same pass.seen; floor = omega arith };
      leads = Leads-none pass.setting pass.floor c.args.questions.now c.args.replies.now.items pass.seen c.requires.none;
      count = ap length c.requires.none;
    }

pub returns-in_err-reply-clause-same : goal.returns-in_err-reply-clause-same
returns-in_err-reply-clause-same g c =
    let before = c.loop-question.invariant.same in
    (c.ask.ensures.same.0 ∙ before.0, c.ask.ensures.same.1 ∙ before.1)

pub returns-in_err-reply-clause-knows : goal.returns-in_err-reply-clause-knows
returns-in_err-reply-clause-knows g c =
    let before = c.loop-question.invariant.knows in
    let refused = c.in_err-reply.ensures.memory in
    record {
      own = refused.own ∙ before.own;
      seen = IsPrefix-more (view c.args.pass.now).seen (view c.loop-question.pass).seen (view c.ask.new.pass).seen before.seen refused.seen;
      floor = omega (arith, before.floor, refused.floor);
    }

pub returns-in_err-push-clause-same : goal.returns-in_err-push-clause-same
returns-in_err-push-clause-same g c =
    let before = c.loop-question.invariant.same in
    (c.ask.ensures.same.0 ∙ before.0, c.ask.ensures.same.1 ∙ before.1)

pub returns-in_err-push-clause-knows : goal.returns-in_err-push-clause-knows
returns-in_err-push-clause-knows g c =
    let before = c.loop-question.invariant.knows in
    let says = c.in_ok-reply.ensures.ok in
    record {
      own = says.own ∙ before.own;
      seen = IsPrefix-more (view c.args.pass.now).seen (view c.loop-question.pass).seen (view c.ask.new.pass).seen before.seen says.seen;
      floor = omega (arith, before.floor, says.later, says.floor);
    }
