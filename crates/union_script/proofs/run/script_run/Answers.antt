use Rattle.std.proofs.Common.{[], subst}
use Rattle.union_script.specs.Lines.{LinesStop}
use Rattle.union_script.specs.Texts.{script_of}
use Rattle.union_files.proofs.FileLaws.{flow}
use Rattle.union_script.proofs.ScriptLaws.{ran_part}
use Rattle.union_script.proofs.StopLaws.{outflow}
use Rattle.union_script.proofs.run.script_run.Goals as goal

pub returns-in-Ok : goal.returns-in-Ok
returns-in-Ok g c =
    let files = g.F.Shelf.files c.args.shelf.now in
    let out = outflow (g.O.Sink.written c.args.out.now) (g.O.Sink.written c.run_text.new.out) (g.O.Sink.faults c.args.out.now) (g.O.Sink.faults c.run_text.new.out) in
    let now_told = g.F.Shelf.files c.read_text_file.new.shelf in
    let b = g.F.Shelf.faults c.read_text_file.new.shelf in
    let d = g.F.Shelf.faults c.run_text.new.shelf in
    record {
      run =
          ran_part c.in-Err-run_text.status c.args.path.now c.in-Ok.script.items files now_told (g.F.Shelf.faults c.args.shelf.now) b d out
          c.in-Ok.ensures.files c.in-Ok.ensures.reads.0 c.in-Ok.ensures.reads.1
          (subst (λ text. LinesStop c.in-Err-run_text.status (script_of text) [] (flow now_told b d) out) c.as_slice.ensures.value c.in-Err-run_text.ensures.run.1);
    }
