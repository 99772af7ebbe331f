use Rattle.std.proofs.Common.{◌≡◌, ◌++◌, ◌+◌, ◌||◌, ◌∙◌, refl, sym, ap, arith}
use Rattle.std.proofs.lemmas.Result.{err_from_is_err_and}
use Rattle.std.proofs.lemmas.List.{drop_all}
use Rattle.union_words.specs.Meanings.{libraries_meaning, file_meaning}
use Rattle.union_words.specs.Stops.{inputs_of}
use Rattle.union_explain.specs.Located.{located}
use Rattle.union_explain.specs.Rows.{rows_of, row_count, any_astray}
use Rattle.union_explain.specs.Runs.{refused_in, are_astray}
use Rattle.union_explain.proofs.RowLaws.{or_none}
use Rattle.union_words.proofs.StopLaws.{flow, stops_memory, stops-next, stops-here}
use Rattle.union_explain.proofs.RunLaws.{text-next, rows-next, astray-next}
use Rattle.union_explain.proofs.run.table_of.Goals as goal

pub loop-place-preserved : goal.loop-place-preserved
loop-place-preserved g c =
    let all = libraries_meaning c.args.libraries.now in
    let file = file_meaning c.at-file.result in
    let refused : c.as_slice.result.now ≡ refused_in c.args.report.now file.library =
    c.as_slice.ensures.value ∙ (c.in-Ok-refused_of.ensures.value ∙ ap (refused_in c.args.report.now) c.bytes.ensures.value) in
    record {
      files = c.read_file.ensures.files ∙ c.loop-place.invariant.files;
      calm = λ name. c.in_ok-read_file-in-Ok-refused_of.ensures.calm name ∙ c.loop-place.invariant.calm name;
      stops = λ status after h. c.loop-place.invariant.stops status after
          (stops-next status all c.loop-place.place file (flow (g.F.Shelf.files c.args.shelf.now) (g.F.Shelf.faults c.args.shelf.now) after) c.at-file.ensures h);
      text = λ contents is.
          text-next c.args.form c.args.report.now contents all c.loop-place.place file c.loop-place.table.text c.read_file.new.table.text _
          c.at-file.ensures
          (c.in_ok-read_file-in-Ok-refused_of.ensures.text contents (c.loop-place.invariant.files ∙ is)
          ∙ ap (λ xs. c.loop-place.table.text ++ rows_of c.args.form file.library (located (contents file.path)) xs) refused)
          (c.loop-place.invariant.text contents is);
      rows = λ contents is.
          rows-next c.args.report.now contents all c.loop-place.place file c.loop-place.table.rows c.read_file.new.table.rows _
          c.at-file.ensures
          (c.in_ok-read_file-in-Ok-refused_of.ensures.rows contents (c.loop-place.invariant.files ∙ is)
          ∙ ap (λ xs. c.loop-place.table.rows + row_count (located (contents file.path)) xs) refused)
          (c.loop-place.invariant.rows contents is);
      astray = λ contents is.
          astray-next c.args.report.now contents all c.loop-place.place file c.loop-place.table.astray c.read_file.new.table.astray _
          c.at-file.ensures
          (c.in_ok-read_file-in-Ok-refused_of.ensures.astray contents (c.loop-place.invariant.files ∙ is)
          ∙ ap (λ xs. c.loop-place.table.astray || any_astray (located (contents file.path)) xs) refused)
          (c.loop-place.invariant.astray contents is);
    }

pub returns-clause-astray : goal.returns-clause-astray
returns-clause-astray g c = λ contents is.
    let all = libraries_meaning c.args.libraries.now in
    let none = drop_all c.loop-place.place all (omega (arith, c.loop-place-test.false, c.len-place-end.ensures.value)) in
    or_none c.loop-place.table.astray
    ∙ (ap (λ xs. c.loop-place.table.astray || are_astray c.args.report.now contents xs) (sym none) ∙ c.loop-place.invariant.astray contents is)

pub returns-in_default-clause-stops : goal.returns-in_default-clause-stops
returns-in_default-clause-stops g c = stops_memory (inputs_of (libraries_meaning c.args.libraries.now)) _ (λ name. refl)

pub returns-in_err-read_file-in-Ok-refused_of-clause-stops : goal.returns-in_err-read_file-in-Ok-refused_of-clause-stops
returns-in_err-read_file-in-Ok-refused_of-clause-stops g c =
    let p = err_from_is_err_and c.from_residual.result c.from_residual.ensures.1 in
    rw (p.1, p.2)
    (c.loop-place.invariant.stops _ (g.F.Shelf.faults c.read_file.new.shelf)
    (stops-here _ (libraries_meaning c.args.libraries.now) c.loop-place.place (file_meaning c.at-file.result) (g.F.Shelf.files c.args.shelf.now)
    (g.F.Shelf.files c.loop-place.shelf) (g.F.Shelf.faults c.args.shelf.now) (g.F.Shelf.faults c.loop-place.shelf) (g.F.Shelf.faults c.read_file.new.shelf)
    c.at-file.ensures c.loop-place.invariant.files c.loop-place.invariant.calm c.in_err-read_file-in-Ok-refused_of.ensures.stops))

pub returns-in-Err-clause-stops : goal.returns-in-Err-clause-stops
returns-in-Err-clause-stops g c = stops_memory (inputs_of (libraries_meaning c.args.libraries.now)) _ c.loop-place.invariant.calm
