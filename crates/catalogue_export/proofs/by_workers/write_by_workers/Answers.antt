use Rattle.std.proofs.Common.{◌+◌, drop, arith}
use Rattle.std.specs.List.{slice_range}
use Rattle.std.proofs.lemmas.List.Folds.{drop_split}
use Rattle.catalogue_export.specs.Sources.{left_of_one}
use Rattle.catalogue_export.proofs.ExportLaws.{to-begin, to-more, to-stop}
use Rattle.catalogue_export.proofs.by_workers.write_by_workers.Goals as goal

pub rounds-init : goal.rounds-init
rounds-init g c = record {
  within = omega arith;
  exported = to-begin (g.F.ExportForm.shown c.args.listing.now.sources.now) (left_of_one c.args.listing.now.sources.now) c.args.listing.now.editions.now (g.O.Sink.written c.args.out.now) (g.O.Sink.faults c.args.out.now) c.args.left.now.items;
}

pub rounds-preserved : goal.rounds-preserved
rounds-preserved g c =
    let editions = c.args.listing.now.editions.now in
    let end = c.rounds.done + c.clamp.result in
    record {
      within = omega (arith, c.clamp.ensures, c.rounds-test.true);
      exported = to-more (g.F.ExportForm.shown c.args.listing.now.sources.now) (left_of_one c.args.listing.now.sources.now)
          editions (drop c.rounds.done editions) (slice_range editions c.rounds.done end) (drop end editions)
          (g.O.Sink.written c.args.out.now) (g.O.Sink.written c.rounds.out) (g.O.Sink.written c.write_round.new.out)
          (g.O.Sink.faults c.args.out.now) (g.O.Sink.faults c.rounds.out) (g.O.Sink.faults c.write_round.new.out)
          c.args.left.now.items c.rounds.left.items c.write_round.new.left.items (drop_split editions c.rounds.done end (omega arith))
          c.rounds.invariant.exported c.in-Ok.ensures;
    }

pub returns-in-Err : goal.returns-in-Err
returns-in-Err g c =
    let editions = c.args.listing.now.editions.now in
    let end = c.rounds.done + c.clamp.result in
    to-stop (g.F.ExportForm.shown c.args.listing.now.sources.now) (left_of_one c.args.listing.now.sources.now)
    editions (drop c.rounds.done editions) (slice_range editions c.rounds.done end) (drop end editions)
    (g.O.Sink.written c.args.out.now) (g.O.Sink.written c.rounds.out) (g.O.Sink.written c.write_round.new.out)
    (g.O.Sink.faults c.args.out.now) (g.O.Sink.faults c.rounds.out) (g.O.Sink.faults c.write_round.new.out)
    c.args.left.now.items c.rounds.left.items c.write_round.new.left.items c.in-Err.fail (drop_split editions c.rounds.done end (omega arith))
    c.rounds.invariant.exported c.in-Err.ensures
