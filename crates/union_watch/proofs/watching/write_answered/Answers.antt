use Rattle.std.proofs.Common.{◌++◌, ◌||◌, map, append-nil, ap, refl, Err}
use Rattle.union_words.specs.Statuses.{end_by}
use Rattle.union_watch.specs.AskLines.{line_meaning}
use Rattle.union_watch.specs.Told.{told_of}
use Rattle.union_watch.specs.WatchTexts.{watch_text}
use Rattle.union_watch.proofs.RunLaws.{shown-whole, shown-failed}
use Rattle.union_watch.proofs.watching.write_answered.Goals as goal

pub returns-in-Ok : goal.returns-in-Ok
returns-in-Ok g c =
    let answered = c.args.answered in
    let wrote = rw c.as_slice.ensures.value at c.in-Ok.ensures in
    shown-whole (watch_text answered.loaded.catalogue.history (told_of (map line_meaning answered.lines.items) (answered.beside.items ++ answered.late.items)))
    answered.loaded.reports.items (end_by (answered.loaded.refused || answered.refused)) _ _ c.write_reports.result
    wrote.written
    (rw (c.with_refusal.ensures.reports, c.with_refusal.ensures.refused, append-nil) at c.write_reports.ensures)

pub returns-in-Err-WriteFault : goal.returns-in-Err-WriteFault
returns-in-Err-WriteFault g c =
    let answered = c.args.answered in
    let wrote = rw c.as_slice.ensures.value at c.in-Err-WriteFault.ensures in
    shown-failed (watch_text answered.loaded.catalogue.history (told_of (map line_meaning answered.lines.items) (answered.beside.items ++ answered.late.items)))
    answered.loaded.reports.items (end_by (answered.loaded.refused || answered.refused)) _ _
    wrote.written (wrote.failed (ap Err c.in-Err-WriteFault.field-0-is)) refl
