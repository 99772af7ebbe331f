use Rattle.std.proofs.Common.{◌++◌, Some, inl, refl, ap, ◌∙◌}
use Rattle.std.specs.Prelude.{Err}
use Rattle.union_io.specs.Files.{told_file}
use Rattle.union_words.specs.Meanings.{file_meaning}
use Rattle.union_words.specs.Stops.{input_of}
use Rattle.union_words.proofs.StopLaws.{stops_before}
use Rattle.union_explain.specs.Located.{located}
use Rattle.union_explain.specs.Rows.{rows_of}
use Rattle.union_explain.proofs.StopLaws.{file-stops}
use Rattle.union_explain.proofs.run.read_file.Goals as goal

pub returns-in-Ok-added-clause-text : goal.returns-in-Ok-added-clause-text
returns-in-Ok-added-clause-text g c contents is =
    c.in-Ok-added.ensures.text (contents c.args.file.now.path.now)
    (c.in-Ok-open.ensures.left ∙ (ap (λ files. told_file files c.in-Ok.path) is ∙ ap (λ path. Some (contents path)) c.in-Ok.ensures))
    ∙ ap (λ library. c.args.table.now.text
    ++ rows_of c.args.form library (located (contents c.args.file.now.path.now)) c.args.refused.now) c.bytes.ensures.value

pub returns-in-Ok-added-clause-rows : goal.returns-in-Ok-added-clause-rows
returns-in-Ok-added-clause-rows g c contents is =
    c.in-Ok-added.ensures.rows (contents c.args.file.now.path.now)
    (c.in-Ok-open.ensures.left ∙ (ap (λ files. told_file files c.in-Ok.path) is ∙ ap (λ path. Some (contents path)) c.in-Ok.ensures))

pub returns-in-Ok-added-clause-astray : goal.returns-in-Ok-added-clause-astray
returns-in-Ok-added-clause-astray g c contents is =
    c.in-Ok-added.ensures.astray (contents c.args.file.now.path.now)
    (c.in-Ok-open.ensures.left ∙ (ap (λ files. told_file files c.in-Ok.path) is ∙ ap (λ path. Some (contents path)) c.in-Ok.ensures))

pub returns-in-Ok-open-clause-stops : goal.returns-in-Ok-open-clause-stops
returns-in-Ok-open-clause-stops g c =
    let file = file_meaning c.args.file.now in
    let files = g.F.Shelf.files c.args.shelf.now in
    let before = g.F.Shelf.faults c.open.new.self in
    let after = g.F.Shelf.faults c.give_back.new.self in
    rw c.stop_status.ensures
    (stops_before _ (input_of file) files (g.F.Shelf.faults c.args.shelf.now) before after c.in-Ok-open.ensures.counts
    (file-stops c.in-Err.stop file files (g.F.Src.Source.name c.add_rows-added.new.source) (g.F.Src.Source.left c.in-Ok-open.source)
    (g.F.Src.Source.faults c.in-Ok-open.source) (g.F.Src.Source.faults c.add_rows-added.new.source) before after
    (c.in-Err.ensures.name ∙ (c.in-Ok-open.ensures.name ∙ c.in-Ok.ensures)) (c.in-Ok-open.ensures.left ∙ ap (told_file files) c.in-Ok.ensures)
    c.in-Ok-open.ensures.fresh c.in-Err.ensures.faults (λ is. c.in-Err.ensures.long (ap Err is))
    c.give_back.ensures.raised c.give_back.ensures.calm c.give_back.ensures.others))

pub returns-in-Err-Failed-clause-stops : goal.returns-in-Err-Failed-clause-stops
returns-in-Err-Failed-clause-stops g c = record {
  file = input_of (file_meaning c.args.file.now);
  one = inl refl;
  named = refl;
  failed = rw (c.in-Err-Failed.field-0-is, c.in-Ok.ensures) at c.in-Err-Failed.ensures.counts;
  others = rw c.in-Ok.ensures at c.in-Err-Failed.ensures.others;
}
