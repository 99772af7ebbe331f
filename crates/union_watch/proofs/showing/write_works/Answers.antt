use Rattle.std.proofs.Common.{◌++◌, [], ap, refl, Err}
use Rattle.catalogue_export.specs.WorkLists.{works_text_of}
use Rattle.union_words.specs.Statuses.{end_by}
use Rattle.union_watch.proofs.RunLaws.{shown-whole, shown-failed, shown-memory}
use Rattle.union_watch.proofs.showing.write_works.Goals as goal

pub returns-in-Ok : goal.returns-in-Ok
returns-in-Ok g c =
    let names = c.args.loaded.catalogue.names in
    let all = c.in-Ok.ensures.0 in (
      all,
      c.in-Ok.ensures.1,
      shown-whole (works_text_of names all) (c.args.loaded.reports.items ++ []) (end_by c.args.loaded.refused) _ _ c.write_reports.result
          c.in-Ok.ensures.2.written c.write_reports.ensures,
    )

pub returns-in-Err-WriteFault : goal.returns-in-Err-WriteFault
returns-in-Err-WriteFault g c =
    let names = c.args.loaded.catalogue.names in
    let all = c.in-Err-WriteFault.ensures.0 in (
      all,
      c.in-Err-WriteFault.ensures.1,
      shown-failed (works_text_of names all) (c.args.loaded.reports.items ++ []) (end_by c.args.loaded.refused) _ _
          c.in-Err-WriteFault.ensures.2.written (c.in-Err-WriteFault.ensures.2.failed (ap Err c.in-Err-WriteFault.field-0-is)) refl,
    )

pub returns : goal.returns
returns g c =
    let names = c.args.loaded.catalogue.names in
    let all = c.in-Err-Memory.ensures.0 in (
      all,
      c.in-Err-Memory.ensures.1,
      shown-memory (works_text_of names all) (c.args.loaded.reports.items ++ []) (end_by c.args.loaded.refused) _ _
          c.in-Err-Memory.ensures.2.written c.put_early.ensures,
    )
