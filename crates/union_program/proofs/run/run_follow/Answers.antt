use Rattle.std.proofs.Common.{◌≡◌, ◌≤◌, ◌++◌, ◌∷◌, [], length, refl, sym, subst}
use Rattle.std.specs.Prelude.{◌||◌, IfSome}
use Rattle.names_file.specs.Named.{no_names}
use Rattle.union_words.specs.Meanings.{libraries_meaning}
use Rattle.union_files.specs.Limits as all
use Rattle.union_files.specs.declared.text_file.TheConstants.{LARGEST_TEXT}
use Rattle.union_files.proofs.FileLaws.{flow, same_more}
use Rattle.union_files.proofs.LimitLaws.{on_files}
use Rattle.union_files.specs.Inputs.{inputs_of, StopsAtLibraries}
use Rattle.union_files.specs.Openings.{OpensInTurn}
use Rattle.union_files.proofs.OpeningLaws.{in_turn_behind}
use Rattle.union_files.proofs.RunLaws.{stopped_at_libraries, within_cons}
use Rattle.union_follow.specs.Following.{HasFollowed}
use Rattle.union_watch.specs.AskLines.{lines_in}
use Rattle.union_watch.specs.WatchRuns.{asks_file, first_files, deliveries_of, IsWatchOf}
use Rattle.union_watch.specs.Told.{told_of}
use Rattle.union_watch.proofs.RunLaws.{keeps_all}
use Rattle.union_watch.proofs.WatchLaws.{asked_run, HasRead}
use Rattle.union_program.specs.Follow.{AreInOrder, followed}
use Rattle.union_program.proofs.FollowLaws.{followed-turned}
use Rattle.union_program.proofs.OpeningLaws.{written_in_turn}
use Rattle.union_program.proofs.run.run_follow.Goals as goal

pub returns-in-Ok-follow_and_answer-clause-run : goal.returns-in-Ok-follow_and_answer-clause-run
returns-in-Ok-follow_and_answer-clause-run g c =
    let files = g.F.Shelf.files c.args.shelf.now in
    let watch = followed c.args.asks.now (libraries_meaning c.args.libraries.now) in
    let text = c.as_slice.result.now in
    let answered = c.in-Ok-follow_and_answer.answered in
    let loaded = answered.loaded in
    let replies = answered.beside.items ++ answered.late.items in
    let before = g.F.Shelf.faults c.args.shelf.now in
    let between = g.F.Shelf.faults c.read_asks.new.shelf in
    let after = g.F.Shelf.faults c.follow_and_answer.new.shelf in
    let texts : IfSome files (λ contents. (length (contents c.args.asks.now) ≤ LARGEST_TEXT) × (text ≡ contents c.args.asks.now))
    = subst (λ t. IfSome files (λ contents. (length (contents c.args.asks.now) ≤ LARGEST_TEXT) × (t ≡ contents c.args.asks.now)))
    (sym c.as_slice.ensures.value) c.in-Ok.ensures.reads.1 in
    let first : IfSome files (HasRead watch text no_names)
    = on_files files (λ contents asks. record {
      within = within_cons contents (asks_file watch) [] asks.0 refl;
      text_is = asks.1;
      named = refl;
    }) texts in
    let united : IfSome files (λ contents. all.AreWithin contents (inputs_of watch.libraries) × HasFollowed (deliveries_of contents watch) loaded)
    = subst (λ fs. IfSome fs (λ contents. all.AreWithin contents (inputs_of watch.libraries) × HasFollowed (deliveries_of contents watch) loaded))
    c.in-Ok.ensures.files c.in-Ok-follow_and_answer.ensures.gathers.1 in
    asked_run AreInOrder watch text no_names loaded (told_of (lines_in text) replies) answered.refused c.write_answered.result (flow files before after) _ _
    (same_more before between after c.in-Ok.ensures.reads.0 c.in-Ok-follow_and_answer.ensures.gathers.0) first
    (on_files files (λ contents united. (united.0, followed-turned (deliveries_of contents watch) loaded united.1)) united)
    c.in-Ok-follow_and_answer.ensures.told c.in-Ok-follow_and_answer.ensures.timely c.in-Ok-follow_and_answer.ensures.refused
    (rw c.in-Ok-follow_and_answer.ensures.lines at c.write_answered.ensures)

pub returns-in-Ok-clause-run : goal.returns-in-Ok-clause-run
returns-in-Ok-clause-run g c =
    let files = g.F.Shelf.files c.args.shelf.now in
    let watch = followed c.args.asks.now (libraries_meaning c.args.libraries.now) in
    let status = c.in-Err-follow_and_answer.status in
    let before = g.F.Shelf.faults c.read_asks.new.shelf in
    let after = g.F.Shelf.faults c.follow_and_answer.new.shelf in
    let first : IfSome files (λ contents. all.AreWithin contents (first_files watch))
    = on_files {P = λ contents. (length (contents c.args.asks.now) ≤ LARGEST_TEXT) × (c.in-Ok.text.items ≡ contents c.args.asks.now)} files
    (λ contents asks. within_cons contents (asks_file watch) [] asks.0 refl) c.in-Ok.ensures.reads.1 in
    let stops : StopsAtLibraries status watch.libraries (flow files before after)
    = subst (λ fs. StopsAtLibraries status watch.libraries (flow fs before after)) c.in-Ok.ensures.files c.in-Err-follow_and_answer.ensures.gathers in
    rw c.end.ensures.same
    (stopped_at_libraries (IsWatchOf AreInOrder watch) status (first_files watch) watch.libraries files
    (g.F.Shelf.faults c.args.shelf.now) before after _ _ c.in-Ok.ensures.reads.0 first stops (keeps_all (g.O.Sink.written c.args.out.now)))

pub returns-in-Ok-follow_and_answer-clause-in_turn : goal.returns-in-Ok-follow_and_answer-clause-in_turn
returns-in-Ok-follow_and_answer-clause-in_turn g c =
    let answered = c.in-Ok-follow_and_answer.answered in
    written_in_turn (g.F.Shelf.files c.args.shelf.now) (answered.loaded.refused || answered.refused) c.write_answered.result _ _ _ c.write_answered.ensures.kinds

pub returns-in-Ok-clause-in_turn : goal.returns-in-Ok-clause-in_turn
returns-in-Ok-clause-in_turn g c =
    let watch = followed c.args.asks.now (libraries_meaning c.args.libraries.now) in
    let status = c.in-Err-follow_and_answer.status in
    let asked = g.F.Shelf.opened c.read_asks.new.shelf in
    let after = g.F.Shelf.opened c.follow_and_answer.new.shelf in
    rw c.end.ensures.same
    (in_turn_behind (g.F.Shelf.files c.args.shelf.now) status (asks_file watch ∷ []) (inputs_of watch.libraries)
    (g.F.Shelf.opened c.args.shelf.now) asked after (asked, c.in-Ok.ensures.opened, refl)
    (subst (λ told. OpensInTurn told status (inputs_of watch.libraries) asked after) c.in-Ok.ensures.files c.in-Err-follow_and_answer.ensures.in_turn))

pub returns-clause-in_turn : goal.returns-clause-in_turn
returns-clause-in_turn g c =
    rw c.end-in-Err.ensures.same (c.in-Err.ensures.in_turn (inputs_of (libraries_meaning c.args.libraries.now)))
