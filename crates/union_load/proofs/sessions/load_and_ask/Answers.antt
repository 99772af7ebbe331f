use Rattle.std.proofs.Common.{◌≡◌, ◌+◌, ◌<◌, ◌≤◌, ◌++◌, ◌||◌, ◌&&◌, ℕ, [], true, append-nil, vec_items, sym, ap, subst, ◌∙◌, arith}
use Rattle.std.specs.Prelude.{map, length, nat_le, All, Err, IfSome}
use Rattle.std.specs.List.{AllByRecursion, flat_map, list_all, list_any}
use Rattle.std.specs.Vec.{with_items}
use Rattle.std.proofs.lemmas.Option.{IfSome_then}
use Rattle.std.proofs.lemmas.Result.{err_from_is_err_and}
use mathlib.Core.Path.{fun_ext}
use Rattle.catalogue_editions.specs.declared.batch.Batch.{Batch}
use Rattle.catalogue_lock.specs.Rule.{EndedOk}
use Rattle.catalogue_lock.specs.Tokens.{root_of, view}
use Rattle.catalogue_query.specs.Replies.{Replied, AreReplies}
use Rattle.catalogue_core.specs.Entries.{entries_of}
use Rattle.load_sessions.specs.Sessions.{IsReady}
use Rattle.union_base.specs.Both.{both_true}
use Rattle.union_files.proofs.CourseLaws.{united, delivered-files}
use Rattle.union_files.proofs.DistinctLaws.{distinct_deliveries}
use Rattle.union_files.proofs.FileLaws.{flow, same_more}
use Rattle.union_files.proofs.ListLaws.{each_weaker}
use Rattle.load_sessions.proofs.ReplyLaws.{replied_over}
use Rattle.union_load.proofs.ReplyLaws.{numbered_below}
use Rattle.union_load.proofs.SessionLaws.{have_ended, ready_all}
use Rattle.union_files.specs.Deliveries.{codes_of, AreDistinct, has_refused}
use Rattle.union_files.specs.Inputs.{StopsAtLibraries, deliveries, inputs_of}
use Rattle.union_files.specs.Limits.{AreWithin}
use Rattle.union_files.specs.Courses.{course_text, delivery_of, ended_of, file_of_course}
use Rattle.union_load.specs.Sessions.{courses_of}
use Rattle.union_files.specs.Unions.{HasUnited}
use Rattle.union_words.specs.Meanings.{libraries_meaning}
use Rattle.union_words.specs.Words.{is_library_word, have_distinct_codes, most_libraries}
use Rattle.union_load.proofs.sessions.load_and_ask.Goals as goal

pub run_sessions-requires-clause-ready : goal.run_sessions-requires-clause-ready
run_sessions-requires-clause-ready g c κs within =
    subst (All (IsReady c.in-Ok.desk.board.shared.table_id)) (sym c.as_mut_slice.ensures.value)
    (ready_all c.in-Ok.desk.board.shared.table_id c.args.loading.now.prefer 0 c.in_ok-sessions.sessions.items c.in_ok-sessions.ensures.ready)

pub end_all-requires-clause-ran : goal.end_all-requires-clause-ran
end_all-requires-clause-ran g c κs within =
    (have_ended g.F.Src.Source.name g.F.Src.Source.left g.F.Src.Source.faults c.in-Ok.desk.board.shared.table_id c.args.loading.now.prefer 0
    (g.F.Shelf.files c.start_sessions.new.shelf) (g.F.Shelf.opened c.start_sessions.new.shelf) c.in_ok-sessions.sessions _ c.run_sessions.new.sessions
    c.as_mut_slice.ensures.value c.in_ok-sessions.ensures.ready c.in_ok-sessions.ensures.fresh c.run_sessions.ensures.sessions).ran

pub end_all-requires-clause-libraries : goal.end_all-requires-clause-libraries
end_all-requires-clause-libraries g c κs within =
    (have_ended g.F.Src.Source.name g.F.Src.Source.left g.F.Src.Source.faults c.in-Ok.desk.board.shared.table_id c.args.loading.now.prefer 0
    (g.F.Shelf.files c.start_sessions.new.shelf) (g.F.Shelf.opened c.start_sessions.new.shelf) c.in_ok-sessions.sessions _ c.run_sessions.new.sessions
    c.as_mut_slice.ensures.value c.in_ok-sessions.ensures.ready c.in_ok-sessions.ensures.fresh c.run_sessions.ensures.sessions).files_are ∙ c.in_ok-sessions.ensures.opened

pub close_desk-requires-clause-numbers : goal.close_desk-requires-clause-numbers
close_desk-requires-clause-numbers g c = λ lifetimes outlive.
    let have = have_ended g.F.Src.Source.name g.F.Src.Source.left g.F.Src.Source.faults c.in-Ok.desk.board.shared.table_id c.args.loading.now.prefer 0
    (g.F.Shelf.files c.start_sessions.new.shelf) (g.F.Shelf.opened c.start_sessions.new.shelf) c.in_ok-sessions.sessions _ c.run_sessions.new.sessions
    c.as_mut_slice.ensures.value c.in_ok-sessions.ensures.ready c.in_ok-sessions.ensures.fresh c.run_sessions.ensures.sessions in
    let courses = courses_of g.F.Src.Source.name (with_items c.in_ok-sessions.sessions c.run_sessions.new.sessions).items in
    let made = (root_of c.end_all.new.root).made in
    let few : 0 + length courses + 1 ≤ made = omega (arith, have.long, c.in_ok-end_all.ensures.root.made, c.start_asker-asker.ensures.made, c.in_ok-sessions.ensures.made) in
    subst (AllByRecursion (λ left. left.number + 1 < made))
    (sym (c.in_ok-end_all.ensures.root.ended ∙ ap (λ ended. ended ++ map ended_of courses) (c.start_asker-asker.ensures.ended ∙ c.in_ok-sessions.ensures.ended)))
    (numbered_below 0 courses made have.numbers few)

pub returns-in_err-end_all-clause-gathers : goal.returns-in_err-end_all-clause-gathers
returns-in_err-end_all-clause-gathers g c =
    let status = c.in_err-end_all.field-0.0 in
    let libraries = libraries_meaning c.args.loading.now.libraries in
    let files = g.F.Shelf.files c.args.shelf.now in
    let between = g.F.Shelf.faults c.start_sessions.new.shelf in
    let after = g.F.Shelf.faults c.end_all.new.shelf in
    let p = err_from_is_err_and c.from_residual-in_err-end_all.result c.from_residual-in_err-end_all.ensures.1 in
    let stops : StopsAtLibraries status libraries (flow files between after)
    = subst (λ told. StopsAtLibraries status libraries (flow told between after)) c.in_ok-sessions.ensures.files c.in_err-end_all.ensures.gathers in
    rw (p.1 ∙ ap Err p.2)
    (subst (λ before. StopsAtLibraries status libraries (flow files before after)) (fun_ext c.in_ok-sessions.ensures.calm) stops)

pub close_desk-requires-clause-known : goal.close_desk-requires-clause-known
close_desk-requires-clause-known g c = λ lifetimes outlive.
    let courses = courses_of g.F.Src.Source.name (with_items c.in_ok-sessions.sessions c.run_sessions.new.sessions).items in
    subst (AllByRecursion (λ left. length left.seen ≤ (root_of c.end_all.new.root).floor))
    (sym (c.in_ok-end_all.ensures.root.ended ∙ ap (λ ended. ended ++ map ended_of courses) (c.start_asker-asker.ensures.ended ∙ c.in_ok-sessions.ensures.ended)))
    c.in_ok-end_all.ensures.root.known

pub close_desk-requires-clause-asked : goal.close_desk-requires-clause-asked
close_desk-requires-clause-asked g c = λ lifetimes outlive.
    let asks = c.run_sessions.ensures.asker in
    let before = c.start_asker-asker.result in
    let seen = (view c.run_sessions.new.asker.pass).seen in
    let replies = c.run_sessions.new.asker.replies.items in
    λ done. record {
      idle = asks.knows.own ∙ c.start_asker-asker.ensures.own;
      replied = subst (λ names. Replied names seen 0 c.run_sessions.new.asker.questions.items replies)
          (c.start_asker-asker.ensures.names ∙ sym (c.in_ok-end_all.ensures.root.setting ∙ c.start_asker-asker.ensures.setting))
          (subst (λ questions. Replied (view before.pass).setting seen 0 questions replies) (sym asks.questions)
          (replied_over (view before.pass).setting seen seen 0 (view before.pass).floor before.questions.items replies ([], append-nil seen) (omega arith) asks.replied));
      all = asks.all done ∙ sym (ap length asks.questions);
    }

pub returns-in-Ok-close_desk-clause-gathers : goal.returns-in-Ok-close_desk-clause-gathers
returns-in-Ok-close_desk-clause-gathers g c =
    let name = g.F.Src.Source.name in
    let prefer = c.args.loading.now.prefer in
    let have = have_ended g.F.Src.Source.name g.F.Src.Source.left g.F.Src.Source.faults c.in-Ok.desk.board.shared.table_id c.args.loading.now.prefer 0
    (g.F.Shelf.files c.start_sessions.new.shelf) (g.F.Shelf.opened c.start_sessions.new.shelf) c.in_ok-sessions.sessions _ c.run_sessions.new.sessions
    c.as_mut_slice.ensures.value c.in_ok-sessions.ensures.ready c.in_ok-sessions.ensures.fresh c.run_sessions.ensures.sessions in
    let courses = courses_of name (with_items c.in_ok-sessions.sessions c.run_sessions.new.sessions).items in
    let words = c.args.loading.now.libraries.words.now in
    let libraries = libraries_meaning c.args.loading.now.libraries in
    let loaded = c.in-Ok-close_desk.watched.loaded in
    let entries = entries_of loaded.catalogue.history in
    let names = c.args.start.names in
    let named : (root_of c.end_all.new.root).setting ≡ names
    = c.in_ok-end_all.ensures.root.setting ∙ (c.start_asker-asker.ensures.setting ∙ (c.in_ok-sessions.ensures.setting ∙ c.in-Ok.ensures.names)) in
    let reports = c.end_all.new.reports in
    let closed = c.in-Ok-close_desk.ensures in
    let made : (root_of c.end_all.new.root).made ≡ length courses + 1 =
    omega (arith, have.long, c.in_ok-end_all.ensures.root.made, c.start_asker-asker.ensures.made, c.in_ok-sessions.ensures.made) in
    let same : map file_of_course courses ≡ libraries = have.files_are ∙ c.in_ok-sessions.ensures.opened in
    let ended : AllByRecursion (EndedOk entries) (map ended_of courses) = subst (AllByRecursion (EndedOk entries))
    (c.in_ok-end_all.ensures.root.ended ∙ ap (λ ended. ended ++ map ended_of courses) (c.start_asker-asker.ensures.ended ∙ c.in_ok-sessions.ensures.ended)) closed.ended in
    let below : AllByRecursion (λ (e : ℕ × Batch). e.0 < length courses) entries =
    each_weaker (λ (e : ℕ × Batch). e.0 + 1 < (root_of c.end_all.new.root).made) (λ e. e.0 < length courses) entries (λ e low. omega (arith, low, made)) closed.numbers in
    let distinct : have_distinct_codes words ≡ true =
    (both_true (list_all is_library_word words) (have_distinct_codes words)
    (both_true (nat_le 1 (length words) && nat_le (length words) most_libraries) (list_all is_library_word words && have_distinct_codes words) c.args.loading.now.libraries.words_are_libraries).1).1 in (
      same_more (g.F.Shelf.faults c.args.shelf.now) (g.F.Shelf.faults c.start_sessions.new.shelf) (g.F.Shelf.faults c.end_all.new.shelf)
          c.in_ok-sessions.ensures.calm c.in_ok-end_all.ensures.gathers.0,
      subst (λ files. IfSome files (λ contents. AreWithin contents (inputs_of libraries) × HasUnited names (deliveries prefer contents libraries) loaded)) c.in_ok-sessions.ensures.files
          (IfSome_then (g.F.Shelf.files c.start_sessions.new.shelf) c.in_ok-end_all.ensures.gathers.1 (λ contents read. (
            read.0,
            let all : map (delivery_of contents) courses ≡ deliveries prefer contents libraries
                = delivered-files prefer contents courses have.prefers ∙ ap (deliveries prefer contents) same in
                subst (λ all. HasUnited names all loaded) all
                (united names contents courses loaded (closed.names ∙ named) have.numbers ended below
                (subst (λ all. AreDistinct (codes_of all)) (sym all) (distinct_deliveries words prefer contents distinct)) read.1.whole
                (ap vec_items closed.reports ∙ (read.1.text ∙ ap (λ text. text ++ flat_map (course_text contents) courses) c.none-reports.ensures.text))
                (closed.refused ∙ (read.1.refused
                ∙ ap (λ refused. refused || list_any has_refused (map (delivery_of contents) courses)) c.none-reports.ensures.refused))),
          ))),
    )

pub returns-in-Ok-close_desk-clause-beside : goal.returns-in-Ok-close_desk-clause-beside
returns-in-Ok-close_desk-clause-beside g c =
    let watched = c.in-Ok-close_desk.watched in
    let named : (root_of c.end_all.new.root).setting ≡ c.args.start.names
    = c.in_ok-end_all.ensures.root.setting ∙ (c.start_asker-asker.ensures.setting ∙ (c.in_ok-sessions.ensures.setting ∙ c.in-Ok.ensures.names)) in
    subst (λ names. AreReplies names watched.loaded.catalogue.history 0 c.args.start.questions.beside.items watched.beside.items) named
    (subst (λ questions. AreReplies (root_of c.end_all.new.root).setting watched.loaded.catalogue.history 0 questions watched.beside.items)
    (c.run_sessions.ensures.asker.questions ∙ ap vec_items c.start_asker-asker.ensures.questions) c.in-Ok-close_desk.ensures.beside)

pub returns-in-Ok-close_desk-clause-late : goal.returns-in-Ok-close_desk-clause-late
returns-in-Ok-close_desk-clause-late g c =
    let watched = c.in-Ok-close_desk.watched in
    let history = watched.loaded.catalogue.history in
    let named : (root_of c.end_all.new.root).setting ≡ c.args.start.names
    = c.in_ok-end_all.ensures.root.setting ∙ (c.start_asker-asker.ensures.setting ∙ (c.in_ok-sessions.ensures.setting ∙ c.in-Ok.ensures.names)) in
    subst (λ names. AreReplies names history (length history) c.args.start.questions.late.items watched.late.items) named c.in-Ok-close_desk.ensures.late
