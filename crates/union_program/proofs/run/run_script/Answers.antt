use Rattle.std.proofs.Common.{refl}
use Rattle.union_words.specs.declared.status.Status.TheVariants.{Memory}
use Rattle.union_script.proofs.ScriptLaws.{stopped_at_script}
use Rattle.union_files.proofs.FileLaws.{flow}
use Rattle.union_program.proofs.run.run_script.Goals as goal

pub returns-in-Err : goal.returns-in-Err
returns-in-Err g c =
    stopped_at_script Memory c.args.path.now
    (flow (g.F.Shelf.files c.args.shelf.now) (g.F.Shelf.faults c.args.shelf.now) (g.F.Shelf.faults c.args.shelf.now))
    (g.O.Sink.written c.args.out.now) (g.O.Sink.faults c.args.out.now) (g.O.Sink.faults c.args.out.now) (λ name. refl)
