use Rattle.std.proofs.Common.{◌≡◌, true, false, refl, sym, ap, subst}
use Rattle.std.specs.Prelude.{Err}
use Rattle.std.specs.Result.{is_err}
use Rattle.catalogue_query.specs.Queries.{query_of}
use Rattle.catalogue_query.specs.declared.query.QueryRefusal.TheVariants.{Unknown, Word as BadRest}
use Rattle.union_words.specs.ScriptLines.{Ask}
use Rattle.union_script.specs.Lines.{Says}
use Rattle.union_script.specs.Texts.{IsAnswer, IsReply, refused_word, refused_unknown}
use Rattle.union_script.proofs.LineLaws.{says_line}
use Rattle.union_script.proofs.StopLaws.{outflow}
use Rattle.union_files.proofs.LimitLaws.{on_all}
use Rattle.union_script.proofs.asking.run_ask.Goals as goal

pub returns-in-Ok-answer_text : goal.returns-in-Ok-answer_text
returns-in-Ok-answer_text g c =
    λ shelf calm.
    let history = c.args.catalogue.now.history in
    let text = c.in-Ok-answer_text.text.items in
    let out = outflow (g.O.Sink.written c.args.out.now) (g.O.Sink.written c.say.new.out) (g.O.Sink.faults c.args.out.now) (g.O.Sink.faults c.say.new.out) in
    says_line c.say.result (Ask c.args.line.now) history history text false shelf.files shelf.before shelf.after out calm
    (on_all shelf.files (λ contents. record {
      within = refl;
      writes = (subst (λ meaning. IsReply meaning history text) (sym c.in-Ok.ensures) (subst (λ names. IsAnswer names c.in-Ok.query history text) c.requires c.in-Ok-answer_text.ensures), refl);
      refused = ap is_err (sym c.in-Ok.ensures);
    }))
    (subst (λ text. Says c.say.result text false out) c.as_slice.ensures.value c.say.ensures)

pub returns-in-Err-Unknown : goal.returns-in-Err-Unknown
returns-in-Err-Unknown g c =
    λ shelf calm.
    let history = c.args.catalogue.now.history in
    let meaning : query_of c.args.line.now ≡ Err Unknown = rw c.in-Err-Unknown.field-0-is at c.in-Err-Unknown.ensures in
    let out = outflow (g.O.Sink.written c.args.out.now) (g.O.Sink.written c.say-in-Err-Unknown.new.out) (g.O.Sink.faults c.args.out.now) (g.O.Sink.faults c.say-in-Err-Unknown.new.out) in
    says_line c.say-in-Err-Unknown.result (Ask c.args.line.now) history history refused_unknown true shelf.files shelf.before shelf.after out calm
    (on_all shelf.files (λ contents. record {
      within = refl;
      writes = (subst (λ meaning. IsReply meaning history refused_unknown) (sym meaning) refl, refl);
      refused = ap is_err (sym meaning);
    }))
    c.say-in-Err-Unknown.ensures

pub returns-in-Err-Word : goal.returns-in-Err-Word
returns-in-Err-Word g c =
    λ shelf calm.
    let history = c.args.catalogue.now.history in
    let meaning : query_of c.args.line.now ≡ Err BadRest = rw c.in-Err-Word.field-0-is at c.in-Err-Word.ensures in
    let out = outflow (g.O.Sink.written c.args.out.now) (g.O.Sink.written c.say-in-Err-Word.new.out) (g.O.Sink.faults c.args.out.now) (g.O.Sink.faults c.say-in-Err-Word.new.out) in
    says_line c.say-in-Err-Word.result (Ask c.args.line.now) history history refused_word true shelf.files shelf.before shelf.after out calm
    (on_all shelf.files (λ contents. record {
      within = refl;
      writes = (subst (λ meaning. IsReply meaning history refused_word) (sym meaning) refl, refl);
      refused = ap is_err (sym meaning);
    }))
    c.say-in-Err-Word.ensures
