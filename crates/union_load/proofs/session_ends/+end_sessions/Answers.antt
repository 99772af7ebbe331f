use Rattle.std.proofs.Common.{◌∷◌, [], sym, subst}
use Rattle.std.specs.Prelude.{map}
use Rattle.union_load.proofs.FaultLaws.{unfailed-one, unfailed-more}
use Rattle.union_files.proofs.ReportLaws.{reported_both}
use Rattle.union_load.proofs.SessionLaws.{closes_behind}
use Rattle.union_files.specs.Courses.{AreReported, file_of_course}
use Rattle.union_load.specs.Sessions.{Closes, NoneFailed, course_of, courses_of}
use Rattle.union_load.proofs.session_ends.+end_sessions.Goals as goal

pub returns-in-Ok-clause-closes : goal.returns-in-Ok-clause-closes
returns-in-Ok-clause-closes g t c =
    let name = g.F.Src.Source.name in
    let files = g.F.Shelf.files c.args.shelf.now in
    let old = c.args.reports.now in
    let mid = c.end_session-ended.new.reports in
    let new = c.end_sessions-later.new.reports in
    let one = course_of name c.in-Some.session in
    let rest = courses_of name c.pop_front.new.self.items in
    subst (λ items. NoneFailed (courses_of name items)
    → Closes c.end_sessions-later.result (map file_of_course (courses_of name items)) files (λ contents. AreReported contents (courses_of name items) old new))
    (sym c.in-Some.ensures.items)
    (λ none. closes_behind c.end_sessions-later.result (file_of_course one) (map file_of_course rest) files
    (λ contents. AreReported contents (one ∷ []) old mid) (λ contents. AreReported contents rest mid new) (λ contents. AreReported contents (one ∷ rest) old new)
    (λ contents p q. reported_both contents one rest old mid new p q) (c.in-Ok.ensures.closes (unfailed-one one rest none))
    (subst (λ told. Closes c.end_sessions-later.result (map file_of_course rest) told (λ contents. AreReported contents rest mid new)) c.in-Ok.ensures.files
    (c.end_sessions-later.ensures.closes (unfailed-more one rest none))))
