use Rattle.std.proofs.Common.{◌∷◌, [], true, false, refl, subst}
use Rattle.std.specs.Prelude.{Ok}
use Rattle.union_words.specs.ScriptLines.{Export, Works, Word}
use Rattle.union_script.specs.Lines.{LinesRun}
use Rattle.union_script.specs.Texts.{IsExport, IsWorkList, refused_word, told_line}
use Rattle.union_script.proofs.LineLaws.{notices_run, says_line}
use Rattle.union_files.proofs.FileLaws.{flow}
use Rattle.union_script.proofs.StopLaws.{outflow}
use Rattle.union_files.proofs.LimitLaws.{on_all}
use Rattle.union_script.proofs.line.run_line.Goals as goal

pub returns-in-Export-clause-run : goal.returns-in-Export-clause-run
returns-in-Export-clause-run g c =
    let files = g.F.Shelf.files c.args.shelf.now in
    let faults = g.F.Shelf.faults c.args.shelf.now in
    let history = c.args.union.now.catalogue.history in
    let out = outflow (g.O.Sink.written c.args.out.now) (g.O.Sink.written c.run_export.new.out) (g.O.Sink.faults c.args.out.now) (g.O.Sink.faults c.run_export.new.out) in
    subst (λ line. LinesRun c.run_export.result (told_line c.args.union.now.told line ∷ []) history history (flow files faults faults) out) c.in-Export.ensures
    (says_line c.run_export.result Export history history c.run_export.ensures.0 false files faults faults out (λ name. refl)
    (on_all files (λ contents. record { within = refl; writes = (subst (λ names. IsExport names history c.run_export.ensures.0) c.args.union.now.unnamed c.run_export.ensures.1, refl); refused = refl })) c.run_export.ensures.2)

pub returns-in-Works-clause-run : goal.returns-in-Works-clause-run
returns-in-Works-clause-run g c =
    let files = g.F.Shelf.files c.args.shelf.now in
    let faults = g.F.Shelf.faults c.args.shelf.now in
    let history = c.args.union.now.catalogue.history in
    let out = outflow (g.O.Sink.written c.args.out.now) (g.O.Sink.written c.run_works.new.out) (g.O.Sink.faults c.args.out.now) (g.O.Sink.faults c.run_works.new.out) in
    subst (λ line. LinesRun c.run_works.result (told_line c.args.union.now.told line ∷ []) history history (flow files faults faults) out) c.in-Works.ensures
    (says_line c.run_works.result Works history history c.run_works.ensures.0 false files faults faults out (λ name. refl)
    (on_all files (λ contents. record { within = refl; writes = (subst (λ names. IsWorkList names history c.run_works.ensures.0) c.args.union.now.unnamed c.run_works.ensures.1, refl); refused = refl })) c.run_works.ensures.2)

pub returns-in-Ask-clause-run : goal.returns-in-Ask-clause-run
returns-in-Ask-clause-run g c =
    let files = g.F.Shelf.files c.args.shelf.now in
    let faults = g.F.Shelf.faults c.args.shelf.now in
    let history = c.args.union.now.catalogue.history in
    let out = outflow (g.O.Sink.written c.args.out.now) (g.O.Sink.written c.run_ask.new.out) (g.O.Sink.faults c.args.out.now) (g.O.Sink.faults c.run_ask.new.out) in
    subst (λ line. LinesRun c.run_ask.result (told_line c.args.union.now.told line ∷ []) history history (flow files faults faults) out) c.in-Ask.ensures
    (c.run_ask.ensures (flow files faults faults) (λ name. refl))

pub returns-in-Word-clause-run : goal.returns-in-Word-clause-run
returns-in-Word-clause-run g c =
    let files = g.F.Shelf.files c.args.shelf.now in
    let faults = g.F.Shelf.faults c.args.shelf.now in
    let history = c.args.union.now.catalogue.history in
    let out = outflow (g.O.Sink.written c.args.out.now) (g.O.Sink.written c.say.new.out) (g.O.Sink.faults c.args.out.now) (g.O.Sink.faults c.say.new.out) in
    subst (λ line. LinesRun c.say.result (told_line c.args.union.now.told line ∷ []) history history (flow files faults faults) out) c.in-Word.ensures
    (says_line c.say.result Word history history refused_word true files faults faults out (λ name. refl)
    (on_all files (λ contents. record { within = refl; writes = (refl, refl); refused = refl })) c.say.ensures)

pub returns-in-Notices-clause-run : goal.returns-in-Notices-clause-run
returns-in-Notices-clause-run g c =
    let files = g.F.Shelf.files c.args.shelf.now in
    let faults = g.F.Shelf.faults c.args.shelf.now in
    let history = c.args.union.now.catalogue.history in
    let written = g.O.Sink.written c.args.out.now in
    let count = g.O.Sink.faults c.args.out.now in
    subst (λ line. LinesRun (Ok false) (told_line c.args.union.now.told line ∷ []) history history (flow files faults faults) (outflow written written count count))
    c.in-Notices.ensures (notices_run history files faults written count)
