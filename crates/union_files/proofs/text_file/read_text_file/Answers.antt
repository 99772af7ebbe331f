use Rattle.std.proofs.Common.{◌∙◌, subst}
use Rattle.union_words.specs.Flows.{InputFile, Inflow}
use Rattle.union_files.specs.Readings.{IsStop}
use Rattle.union_files.proofs.FileLaws.{file_stops, stops_before, not_opened}
use Rattle.union_files.proofs.text_file.read_text_file.Goals as goal

pub returns-in-Err-clause-reads : goal.returns-in-Err-clause-reads
returns-in-Err-clause-reads g c =
    let file : InputFile = record { input = c.args.input; path = c.args.path.now } in
    let files = g.F.Shelf.files c.args.shelf.now in
    let before = g.F.Shelf.faults c.open.new.self in
    let after = g.F.Shelf.faults c.give_back.new.self in
    let flow : Inflow = record {
      told = g.F.Src.Source.left c.in-Ok.source;
      before = g.F.Src.Source.faults c.in-Ok.source;
      after = g.F.Src.Source.faults c.read_whole-read.new.source;
    } in
    rw c.stopped_with.ensures
    (stops_before _ file files (g.F.Shelf.faults c.args.shelf.now) before after c.in-Ok.ensures.counts
    (file_stops c.in-Err.stop file files (g.F.Src.Source.name c.read_whole-read.new.source) _ _ (g.F.Src.Source.faults c.read_whole-read.new.source) before after
    (c.in-Err.ensures.name ∙ c.in-Ok.ensures.name) c.in-Ok.ensures.left c.in-Ok.ensures.fresh
    (subst (λ limit. IsStop limit c.in-Err.stop flow) c.limit_of.ensures c.in-Err.ensures.reads)
    c.give_back.ensures.raised c.give_back.ensures.calm c.give_back.ensures.others))

pub returns-in-Err-Failed-clause-reads : goal.returns-in-Err-Failed-clause-reads
returns-in-Err-Failed-clause-reads g c =
    not_opened (record { input = c.args.input; path = c.args.path.now }) (g.F.Shelf.files c.args.shelf.now) (g.F.Shelf.faults c.args.shelf.now)
    (g.F.Shelf.faults c.open.new.self) (rw c.in-Err-Failed.field-0-is at c.in-Err-Failed.ensures.counts) c.in-Err-Failed.ensures.others
