use Rattle.std.proofs.Common.{take}
use Rattle.turn_plans.specs.Histories.{current}
use Rattle.turn_plans.proofs.TurnLaws.{ordered-current}
use Rattle.catalogue_export.proofs.RecordLaws.{none-loaded, turn-next}
use Rattle.catalogue_export.proofs.records.holdings_of.Goals as goal

pub loop-turn-init : goal.loop-turn-init
loop-turn-init c = none-loaded _ c.in_ok-holdings.ensures.empty

pub loop-turn-preserved : goal.loop-turn-preserved
loop-turn-preserved c =
    let history = c.args.catalogue.now.history in
    let turn = c.loop-turn.turn in
    let entry = c.entry.result.now in
    turn-next history turn entry c.follow_batch.new.holdings.entries c.entry.ensures
    (c.in_ok-follow_batch.ensures (current (take turn history)) (ordered-current (take turn history)) c.loop-turn.invariant)
