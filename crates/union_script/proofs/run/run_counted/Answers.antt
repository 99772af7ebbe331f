use Rattle.std.proofs.Common.{[], refl}
use Rattle.union_script.specs.Texts.{script_of}
use Rattle.union_script.proofs.LineLaws.{nothing_run}
use Rattle.union_script.proofs.run.run_counted.Goals as goal

pub returns-in-Err : goal.returns-in-Err
returns-in-Err g c =
    let faults = g.F.Shelf.faults c.args.shelf.now in
    record {
      run = (
        [],
        nothing_run (g.F.Shelf.files c.args.shelf.now) faults faults (script_of c.args.script.now) [] (g.O.Sink.written c.args.out.now)
            (g.O.Sink.faults c.args.out.now) (g.O.Sink.faults c.args.out.now) (λ name. refl),
      );
    }
