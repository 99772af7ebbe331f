use Rattle.std.proofs.Common.{◌++◌, ap, ◌∙◌, refl, Err}
use Rattle.std.specs.List.{flat_map}
use Rattle.catalogue_export.specs.Sources.{left_of}
use Rattle.library_batches.specs.Reports.{left_line}
use Rattle.union_words.specs.Statuses.{end_by}
use Rattle.union_watch.specs.Runs.{left_lines, sources_of}
use Rattle.union_watch.proofs.RunLaws.{shown-whole, shown-failed, shown-memory}
use Rattle.union_watch.proofs.showing.write_export.Goals as goal

pub returns-in-Ok : goal.returns-in-Ok
returns-in-Ok g c =
    let names = sources_of c.args.making.owners c.args.loaded.catalogue.names c.args.loaded.catalogue.history in
    let shown = g.F.ExportForm.shown names in
    let all = c.in-Ok.ensures.0 in
    let told = c.as_slice.ensures.value ∙ (c.in-Ok.ensures.3 ∙ ap (λ l. l ++ left_of names all) c.new-left.ensures.items) in
    let noted = ap (λ l. c.args.loaded.reports.items ++ flat_map left_line l) told in (
      all,
      c.in-Ok.ensures.1,
      shown-whole (flat_map shown all) (c.args.loaded.reports.items ++ left_lines names all) (end_by c.args.loaded.refused) _ _ c.write_reports.result
          c.in-Ok.ensures.2.written (rw noted at c.write_reports.ensures),
    )

pub returns-in-Err-WriteFault : goal.returns-in-Err-WriteFault
returns-in-Err-WriteFault g c =
    let names = sources_of c.args.making.owners c.args.loaded.catalogue.names c.args.loaded.catalogue.history in
    let shown = g.F.ExportForm.shown names in
    let all = c.in-Err-WriteFault.ensures.0 in (
      all,
      c.in-Err-WriteFault.ensures.1,
      shown-failed (flat_map shown all) (c.args.loaded.reports.items ++ left_lines names all) (end_by c.args.loaded.refused) _ _
          c.in-Err-WriteFault.ensures.2.written (c.in-Err-WriteFault.ensures.2.failed (ap Err c.in-Err-WriteFault.field-0-is)) refl,
    )

pub returns : goal.returns
returns g c =
    let names = sources_of c.args.making.owners c.args.loaded.catalogue.names c.args.loaded.catalogue.history in
    let shown = g.F.ExportForm.shown names in
    let all = c.in-Err-Memory.ensures.0 in (
      all,
      c.in-Err-Memory.ensures.1,
      shown-memory (flat_map shown all) (c.args.loaded.reports.items ++ left_lines names all) (end_by c.args.loaded.refused) _ _
          c.in-Err-Memory.ensures.2.written c.put_early.ensures,
    )
