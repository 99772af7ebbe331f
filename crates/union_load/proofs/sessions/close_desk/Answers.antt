use Rattle.std.proofs.Common.{◌∷◌, ◌++◌, [], ℕ, List, vec_items, refl, sym, ap, subst, ◌∙◌, arith}
use Rattle.std.proofs.lemmas.List.{length-map}
use Rattle.std.specs.Prelude.{All, Any, ◌≡◌, ◌<◌, ◌≤◌, ◌+◌, length}
use Rattle.catalogue_editions.specs.declared.batch.Batch.{Batch}
use Rattle.catalogue_lock.specs.Ended.{Ended}
use Rattle.catalogue_lock.specs.Rule.{EndedOk}
use Rattle.catalogue_lock.specs.Tokens.{root_of}
use Rattle.catalogue_core.specs.Entries.{entries_of}
use Rattle.union_files.proofs.ListLaws.{all_both, each_weaker}
use Rattle.union_load.proofs.ReplyLaws.{IsClosed, asked_over, is-closed}
use Rattle.union_load.specs.Asked.{HasAsked, left_by}
use Rattle.union_load.proofs.sessions.close_desk.Goals as goal

pub returns : goal.returns
returns g c =
    let history = c.close-engine.result.engine.history in
    let names = (root_of c.args.opened.1).setting in
    let entries = entries_of history in
    let first = root_of c.args.opened.1 in
    let between = root_of c.end_asker.new.root in
    let beside = left_by c.args.asker in
    let asked = c.in_ok-late.ensures.asked in
    let late = asked.0 in
    let seen = λ (left : Ended Batch). length left.seen ≤ between.floor in
    let ended = asked.1 ∙ ap (λ done. done ++ late ∷ []) c.end_asker.ensures.root.ended in
    let made = c.ask_late.ensures.made ∙ ap (λ n. n + 1) c.end_asker.ensures.root.made in
    let closed : IsClosed entries first.ended beside late first.made between.floor = is-closed entries first.ended beside late first.made between.floor
    (subst (All (EndedOk entries)) ended c.close-engine.ensures.ended)
    (subst (λ n. All (λ (e : ℕ × Batch). e.0 < n) entries) made c.close-engine.ensures.no_other)
    (subst (λ n. (m : ℕ) → m < n → Any (λ (left : Ended Batch). left.number ≡ m) ((first.ended ++ beside ∷ []) ++ late ∷ [])) made
    (subst (λ (all : List (Ended Batch)). (m : ℕ) → m < (root_of c.ask_late.new.root).made → Any (λ (left : Ended Batch). left.number ≡ m) all) ended c.close-engine.ensures.numbers))
    c.requires.numbers
    (all_both seen first.ended (beside ∷ []) (each_weaker (λ left. length left.seen ≤ first.floor) seen first.ended
    (λ left known. omega (arith, known, c.end_asker.ensures.root.floor)) c.requires.known) c.end_asker.ensures.root.known)
    c.requires.idle asked.2.idle in
    let long : length history ≤ between.floor = subst (λ n. n ≤ between.floor) (length-map history _) closed.whole in
    rw c.in_ok-catalogue.ensures (record {
      names = c.close-engine.ensures.setting ∙ (c.ask_late.ensures.setting ∙ c.end_asker.ensures.root.setting);
      reports = refl;
      refused = refl;
      ended = closed.ended;
      numbers = closed.numbers;
      beside = asked_over names history 0 0 c.args.asker.questions.items c.in_ok-beside.beside.items beside closed.beside_ended (omega arith)
          (subst (λ replies. HasAsked names 0 c.args.asker.questions.items replies beside) (sym (ap vec_items c.in_ok-beside.ensures.replies.1))
          (c.requires.asked c.in_ok-beside.ensures.replies.0));
      late = asked_over names history (length history) between.floor c.args.ending.late.items c.in_ok-late.late.items late closed.late_ended long
          (subst (λ names. HasAsked names between.floor c.args.ending.late.items c.in_ok-late.late.items late) c.end_asker.ensures.root.setting asked.2);
    })
