use Rattle.std.proofs.Common.{subst}
use Rattle.union_words.specs.Meanings.{file_meaning}
use Rattle.union_words.specs.ScriptLines.{Load}
use Rattle.union_words.specs.Words
use Rattle.union_script.specs.Lines.{Says}
use Rattle.union_script.proofs.LineLaws.{says_line, stop_at_file, one_within}
use Rattle.union_files.proofs.FileLaws.{flow}
use Rattle.union_script.proofs.StopLaws.{outflow}
use Rattle.union_files.proofs.LimitLaws.{on_files}
use Rattle.union_script.proofs.line.run_load.Goals as goal

pub returns-in-Ok-clause-run : goal.returns-in-Ok-clause-run
returns-in-Ok-clause-run g c =
    let file : Words.LibraryFile = file_meaning c.args.file.now in
    let report = c.in-Ok.report in
    let told = c.args.union.now.told in
    let files = g.F.Shelf.files c.args.shelf.now in
    let out = outflow (g.O.Sink.written c.args.out.now) (g.O.Sink.written c.say.new.out) (g.O.Sink.faults c.args.out.now) (g.O.Sink.faults c.say.new.out) in
    says_line c.say.result (Load told file) c.args.union.now.catalogue.history c.load_file.new.union.catalogue.history report.text.items report.refused files
    (g.F.Shelf.faults c.args.shelf.now) (g.F.Shelf.faults c.load_file.new.shelf) out c.in-Ok.ensures.reads.0
    (on_files files (λ contents read. record { within = one_within contents told file read.0; writes = read.1.loads; refused = read.1.refused }) c.in-Ok.ensures.reads.1)
    (subst (λ text. Says c.say.result text report.refused out) c.as_slice.ensures.value c.say.ensures)

pub returns-in-Err-clause-run : goal.returns-in-Err-clause-run
returns-in-Err-clause-run g c =
    stop_at_file c.in-Err.status c.args.union.now.told (file_meaning c.args.file.now) c.args.union.now.catalogue.history
    (flow (g.F.Shelf.files c.args.shelf.now) (g.F.Shelf.faults c.args.shelf.now) (g.F.Shelf.faults c.load_file.new.shelf))
    (g.O.Sink.written c.args.out.now) (g.O.Sink.faults c.args.out.now) (g.O.Sink.faults c.args.out.now) c.in-Err.ensures.reads
