use Rattle.std.proofs.Common.{◌≡◌, ◌≤◌, ◌++◌, ◌∷◌, [], length, refl, sym, subst}
use Rattle.std.specs.Prelude.{◌||◌, Err, IfSome}
use Rattle.names_file.specs.Named.{named_by, IsNamedBy, names_inputs, ReadsNames}
use Rattle.names_file.proofs.NamesLaws.{names_read}
use Rattle.union_words.specs.Meanings.{loading_meaning}
use Rattle.union_files.specs.Limits as all
use Rattle.union_files.specs.declared.text_file.TheConstants.{LARGEST_TEXT}
use Rattle.union_files.proofs.FileLaws.{flow, same_more}
use Rattle.union_files.proofs.LimitLaws.{on_both, on_files}
use Rattle.union_files.specs.Inputs.{inputs_of, StopsAtLibraries}
use Rattle.union_files.specs.Openings.{OpensInTurn}
use Rattle.union_files.proofs.OpeningLaws.{in_turn_behind}
use Rattle.union_files.specs.Interleavings.{IsInterleaving}
use Rattle.union_files.proofs.RunLaws.{stopped_at_libraries, within_cons}
use Rattle.union_watch.specs.AskLines.{lines_in}
use Rattle.union_watch.specs.WatchRuns.{asks_file, first_files, watch_of, deliveries_of, IsWatchOf}
use Rattle.union_watch.specs.Told.{told_of}
use Rattle.union_watch.specs.Runs.{HasTurned}
use Rattle.union_watch.proofs.RunLaws.{keeps_all, stopped_at_names, written_noted}
use Rattle.union_watch.proofs.WatchLaws.{asked_run, HasRead}
use Rattle.union_program.proofs.OpeningLaws.{written_in_turn}
use Rattle.union_program.proofs.run.run_watch.Goals as goal

pub returns-in-Ok-load_and_answer-clause-run : goal.returns-in-Ok-load_and_answer-clause-run
returns-in-Ok-load_and_answer-clause-run g c =
    let files = g.F.Shelf.files c.args.shelf.now in
    let watch = watch_of c.args.asks.now (loading_meaning c.args.loading.now) in
    let text = c.as_slice.result.now in
    let names = named_by c.in-Ok-names_of.names in
    let answered = c.in-Ok-load_and_answer.answered in
    let loaded = answered.loaded in
    let replies = answered.beside.items ++ answered.late.items in
    let start = g.F.Shelf.faults c.args.shelf.now in
    let asked = g.F.Shelf.faults c.read_asks.new.shelf in
    let named = g.F.Shelf.faults c.names_of.new.shelf in
    let end = g.F.Shelf.faults c.load_and_answer.new.shelf in
    let read = names_read watch.names c.in-Ok-names_of.names (flow (g.F.Shelf.files c.read_asks.new.shelf) asked named) c.in-Ok-names_of.ensures.reads in
    let named_so : IfSome files (λ contents. all.AreWithin contents (names_inputs watch.names) × IsNamedBy contents watch.names names)
    = subst (λ fs. IfSome fs (λ contents. all.AreWithin contents (names_inputs watch.names) × IsNamedBy contents watch.names names)) c.in-Ok.ensures.files read.1 in
    let texts : IfSome files (λ contents. (length (contents c.args.asks.now) ≤ LARGEST_TEXT) × (text ≡ contents c.args.asks.now))
    = subst (λ t. IfSome files (λ contents. (length (contents c.args.asks.now) ≤ LARGEST_TEXT) × (t ≡ contents c.args.asks.now)))
    (sym c.as_slice.ensures.value) c.in-Ok.ensures.reads.1 in
    let first : IfSome files (HasRead watch text names)
    = on_both files (λ contents asks names. record {
      within = within_cons contents (asks_file watch) (names_inputs watch.names) asks.0 names.0;
      text_is = asks.1;
      named = names.1;
    }) texts named_so in
    let turned : IfSome files (λ contents. all.AreWithin contents (inputs_of watch.libraries) × HasTurned IsInterleaving names (deliveries_of contents watch) loaded)
    = subst (λ fs. IfSome fs (λ contents. all.AreWithin contents (inputs_of watch.libraries) × HasTurned IsInterleaving names (deliveries_of contents watch) loaded))
    c.in-Ok.ensures.files
    (subst (λ fs. IfSome fs (λ contents. all.AreWithin contents (inputs_of watch.libraries) × HasTurned IsInterleaving names (deliveries_of contents watch) loaded))
    c.in-Ok-names_of.ensures.files c.in-Ok-load_and_answer.ensures.gathers.1) in
    asked_run IsInterleaving watch text names loaded (told_of (lines_in text) replies) answered.refused c.write_answered.result (flow files start end) _ _
    (same_more start asked end c.in-Ok.ensures.reads.0 (same_more asked named end read.0 c.in-Ok-load_and_answer.ensures.gathers.0)) first turned
    c.in-Ok-load_and_answer.ensures.told c.in-Ok-load_and_answer.ensures.timely c.in-Ok-load_and_answer.ensures.refused
    (rw c.in-Ok-load_and_answer.ensures.lines at c.write_answered.ensures)

pub returns-in-Ok-names_of-clause-run : goal.returns-in-Ok-names_of-clause-run
returns-in-Ok-names_of-clause-run g c =
    let files = g.F.Shelf.files c.args.shelf.now in
    let watch = watch_of c.args.asks.now (loading_meaning c.args.loading.now) in
    let status = c.in-Err-load_and_answer.status in
    let names = named_by c.in-Ok-names_of.names in
    let start = g.F.Shelf.faults c.args.shelf.now in
    let asked = g.F.Shelf.faults c.read_asks.new.shelf in
    let named = g.F.Shelf.faults c.names_of.new.shelf in
    let end = g.F.Shelf.faults c.load_and_answer.new.shelf in
    let read = names_read watch.names c.in-Ok-names_of.names (flow (g.F.Shelf.files c.read_asks.new.shelf) asked named) c.in-Ok-names_of.ensures.reads in
    let named_so : IfSome files (λ contents. all.AreWithin contents (names_inputs watch.names) × IsNamedBy contents watch.names names)
    = subst (λ fs. IfSome fs (λ contents. all.AreWithin contents (names_inputs watch.names) × IsNamedBy contents watch.names names)) c.in-Ok.ensures.files read.1 in
    let first : IfSome files (λ contents. all.AreWithin contents (first_files watch))
    = on_both {P = λ contents. (length (contents c.args.asks.now) ≤ LARGEST_TEXT) × (c.in-Ok.text.items ≡ contents c.args.asks.now)} files
    (λ contents asks names. within_cons contents (asks_file watch) (names_inputs watch.names) asks.0 names.0) c.in-Ok.ensures.reads.1 named_so in
    let stops : StopsAtLibraries status watch.libraries (flow files named end)
    = subst (λ fs. StopsAtLibraries status watch.libraries (flow fs named end)) c.in-Ok.ensures.files
    (subst (λ fs. StopsAtLibraries status watch.libraries (flow fs named end)) c.in-Ok-names_of.ensures.files c.in-Err-load_and_answer.ensures.gathers) in
    rw c.end.ensures.same
    (stopped_at_libraries (IsWatchOf IsInterleaving watch) status (first_files watch) watch.libraries files start named end _ _
    (same_more start asked named c.in-Ok.ensures.reads.0 read.0) first stops (keeps_all (g.O.Sink.written c.args.out.now)))

pub returns-in-Ok-clause-run : goal.returns-in-Ok-clause-run
returns-in-Ok-clause-run g c =
    let files = g.F.Shelf.files c.args.shelf.now in
    let watch = watch_of c.args.asks.now (loading_meaning c.args.loading.now) in
    let status = c.in-Err-names_of.status in
    let start = g.F.Shelf.faults c.args.shelf.now in
    let asked = g.F.Shelf.faults c.read_asks.new.shelf in
    let named = g.F.Shelf.faults c.names_of.new.shelf in
    let first : IfSome files (λ contents. all.AreWithin contents (asks_file watch ∷ []))
    = on_files {P = λ contents. (length (contents c.args.asks.now) ≤ LARGEST_TEXT) × (c.in-Ok.text.items ≡ contents c.args.asks.now)} files
    (λ contents asks. within_cons contents (asks_file watch) [] asks.0 refl) c.in-Ok.ensures.reads.1 in
    let stops : ReadsNames watch.names (Err status) (flow files asked named)
    = subst (λ fs. ReadsNames watch.names (Err status) (flow fs asked named)) c.in-Ok.ensures.files c.in-Err-names_of.ensures.reads in
    rw c.end-in-Err-names_of.ensures.same
    (stopped_at_names (IsWatchOf IsInterleaving watch) status (asks_file watch ∷ []) watch.names watch.libraries files start asked named _ _
    c.in-Ok.ensures.reads.0 first stops (keeps_all (g.O.Sink.written c.args.out.now)))

pub returns-in-Ok-load_and_answer-clause-noted : goal.returns-in-Ok-load_and_answer-clause-noted
returns-in-Ok-load_and_answer-clause-noted g c =
    let answered = c.in-Ok-load_and_answer.answered in
    λ early. written_noted _ _ (answered.loaded.refused || answered.refused) c.write_answered.result _ _ c.write_answered.ensures early

pub returns-in-Ok-load_and_answer-clause-in_turn : goal.returns-in-Ok-load_and_answer-clause-in_turn
returns-in-Ok-load_and_answer-clause-in_turn g c =
    let answered = c.in-Ok-load_and_answer.answered in
    written_in_turn (g.F.Shelf.files c.args.shelf.now) (answered.loaded.refused || answered.refused) c.write_answered.result _ _ _ c.write_answered.ensures.kinds

pub returns-in-Ok-names_of-clause-in_turn : goal.returns-in-Ok-names_of-clause-in_turn
returns-in-Ok-names_of-clause-in_turn g c =
    let watch = watch_of c.args.asks.now (loading_meaning c.args.loading.now) in
    let status = c.in-Err-load_and_answer.status in
    let asked = g.F.Shelf.opened c.read_asks.new.shelf in
    let named = g.F.Shelf.opened c.names_of.new.shelf in
    let after = g.F.Shelf.opened c.load_and_answer.new.shelf in
    rw c.end.ensures.same
    (in_turn_behind (g.F.Shelf.files c.args.shelf.now) status (first_files watch) (inputs_of watch.libraries)
    (g.F.Shelf.opened c.args.shelf.now) named after (asked, c.in-Ok.ensures.opened, c.in-Ok-names_of.ensures.opened)
    (subst (λ told. OpensInTurn told status (inputs_of watch.libraries) named after) c.in-Ok.ensures.files
    (subst (λ told. OpensInTurn told status (inputs_of watch.libraries) named after) c.in-Ok-names_of.ensures.files c.in-Err-load_and_answer.ensures.in_turn)))

pub returns-in-Ok-clause-in_turn : goal.returns-in-Ok-clause-in_turn
returns-in-Ok-clause-in_turn g c =
    let watch = watch_of c.args.asks.now (loading_meaning c.args.loading.now) in
    let status = c.in-Err-names_of.status in
    let rest = names_inputs watch.names ++ inputs_of watch.libraries in
    let asked = g.F.Shelf.opened c.read_asks.new.shelf in
    let named = g.F.Shelf.opened c.names_of.new.shelf in
    rw c.end-in-Err-names_of.ensures.same
    (in_turn_behind (g.F.Shelf.files c.args.shelf.now) status (asks_file watch ∷ []) rest
    (g.F.Shelf.opened c.args.shelf.now) asked named (asked, c.in-Ok.ensures.opened, refl)
    (subst (λ told. OpensInTurn told status rest asked named) c.in-Ok.ensures.files (c.in-Err-names_of.ensures.in_turn (inputs_of watch.libraries))))

pub returns-clause-in_turn : goal.returns-clause-in_turn
returns-clause-in_turn g c =
    let watch = watch_of c.args.asks.now (loading_meaning c.args.loading.now) in
    rw c.end-in-Err.ensures.same (c.in-Err.ensures.in_turn (names_inputs watch.names ++ inputs_of watch.libraries))
