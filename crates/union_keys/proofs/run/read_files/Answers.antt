use Rattle.std.proofs.Common.{◌∙◌}
use Rattle.std.proofs.lemmas.Result.{err_from_is_err_and}
use Rattle.union_words.specs.Meanings.{libraries_meaning, file_meaning}
use Rattle.union_words.proofs.StopLaws.{flow, stops-next, stops-here}
use Rattle.union_keys.proofs.FileLaws.{files-next, within-next, told-within, told-taken}
use Rattle.union_keys.proofs.run.read_files.Goals as goal

pub loop-place-preserved : goal.loop-place-preserved
loop-place-preserved g c =
    let all = libraries_meaning c.args.libraries.now in
    let file = file_meaning c.at-file.result in
    let place = c.loop-place.place in
    record {
      files = c.read_file.ensures.files ∙ c.loop-place.invariant.files;
      calm = λ name. c.in_ok-read_file.ensures.reads.0 name ∙ c.loop-place.invariant.calm name;
      stops = λ status after h. c.loop-place.invariant.stops status after
          (stops-next status all place file (flow (g.F.Shelf.files c.args.shelf.now) (g.F.Shelf.faults c.args.shelf.now) after) c.at-file.ensures h);
      within = λ contents is h. c.loop-place.invariant.within contents is
          (within-next contents all place file c.at-file.ensures
          (told-within (g.F.Shelf.files c.loop-place.shelf) contents file _ (c.loop-place.invariant.files ∙ is) c.in_ok-read_file.ensures.reads.1) h);
      read = λ contents is after t.
          c.loop-place.invariant.read contents is after
          (files-next contents all place file c.loop-place.reading c.read_file.new.reading after c.at-file.ensures
          (told-taken (g.F.Shelf.files c.loop-place.shelf) contents file c.loop-place.reading c.read_file.new.reading (c.loop-place.invariant.files ∙ is)
          c.in_ok-read_file.ensures.reads.1) t);
    }

pub returns-in_err-read_file : goal.returns-in_err-read_file
returns-in_err-read_file g c =
    let p = err_from_is_err_and c.from_residual.result c.from_residual.ensures.1 in
    rw (p.1, p.2) (record {
      reads = c.loop-place.invariant.stops _ (g.F.Shelf.faults c.read_file.new.shelf)
          (stops-here _ (libraries_meaning c.args.libraries.now) c.loop-place.place (file_meaning c.at-file.result) (g.F.Shelf.files c.args.shelf.now)
          (g.F.Shelf.files c.loop-place.shelf) (g.F.Shelf.faults c.args.shelf.now) (g.F.Shelf.faults c.loop-place.shelf) (g.F.Shelf.faults c.read_file.new.shelf)
          c.at-file.ensures c.loop-place.invariant.files c.loop-place.invariant.calm c.in_err-read_file.ensures.reads);
    })
