use Rattle.std.proofs.Common.{◌≡◌, subst}
use Rattle.std.specs.Prelude.{map, Some, None}
use Rattle.std.specs.Option.{option_map}
use Rattle.union_load.proofs.FaultLaws.{failed-first, unfailed-gathers}
use Rattle.union_files.specs.Courses.{AreReported, file_of_course}
use Rattle.union_load.specs.Sessions.{NoneFailed, Closes, RaisesFailed, courses_of, first_failed}
use Rattle.union_words.specs.Words.{LibraryFile}
use Rattle.union_words.specs.Meanings.{libraries_meaning}
use Rattle.union_load.proofs.session_ends.end_all.Goals as goal

pub returns-in-Some-clause-gathers : goal.returns-in-Some-clause-gathers
returns-in-Some-clause-gathers g c =
    let name = g.F.Src.Source.name in
    let before = g.F.Shelf.faults c.args.shelf.now in
    let after = g.F.Shelf.faults c.end_sessions-ended.new.shelf in
    let courses = courses_of name c.args.sessions.items in
    let raises : RaisesFailed courses before after = subst (λ items. RaisesFailed (courses_of name items) before after) c.from_vec-ran.ensures.items c.end_sessions-ended.ensures.counts in
    failed-first courses (libraries_meaning c.args.libraries.now) c.in-Some.library (g.F.Shelf.files c.args.shelf.now) before after c.requires.libraries raises
    (subst (λ items. Some c.in-Some.library ≡ option_map (λ (file : LibraryFile). file.library) (first_failed (courses_of name items) (libraries_meaning c.args.libraries.now)))
    c.as_slice.ensures.value c.in-Some.ensures)

pub returns-clause-gathers : goal.returns-clause-gathers
returns-clause-gathers g c =
    let name = g.F.Src.Source.name in
    let files = g.F.Shelf.files c.args.shelf.now in
    let before = g.F.Shelf.faults c.args.shelf.now in
    let after = g.F.Shelf.faults c.end_sessions-ended.new.shelf in
    let old = c.args.reports.now in
    let new = c.end_sessions-ended.new.reports in
    let courses = courses_of name c.args.sessions.items in
    let raises : RaisesFailed courses before after = subst (λ items. RaisesFailed (courses_of name items) before after) c.from_vec-ran.ensures.items c.end_sessions-ended.ensures.counts in
    unfailed-gathers c.end_sessions-ended.result courses (libraries_meaning c.args.libraries.now) files before after (λ contents. AreReported contents courses old new)
    c.requires.libraries raises
    (subst (λ items. None ≡ option_map (λ (file : LibraryFile). file.library) (first_failed (courses_of name items) (libraries_meaning c.args.libraries.now)))
    c.as_slice.ensures.value c.in-None.ensures)
    (subst (λ items. NoneFailed (courses_of name items) → Closes c.end_sessions-ended.result (map file_of_course (courses_of name items)) files
    (λ contents. AreReported contents (courses_of name items) old new)) c.from_vec-ran.ensures.items c.end_sessions-ended.ensures.closes)
