use Rattle.turn_plans.specs.Histories.{current}
use Rattle.turn_plans.proofs.LeavingLaws.{parts-planned}
use Rattle.turn_plans.proofs.TurnLaws.{ordered-current}
use Rattle.turn_plans.proofs.prepared.planned_parts.Goals as goal

pub returns-clause-planned : goal.returns-clause-planned
returns-clause-planned g c =
    let change = c.in_ok-change-2.change in
    let p = c.in_ok-change.ensures.planned in
    parts-planned (current c.args.context.now.history.now) c.args.context.now.batch.now (ordered-current c.args.context.now.history.now) p c.args.parts.items change.closed.items change.opened.items
    c.in_ok-touched.touched.entries c.in_ok-touched.ensures.touched c.in_ok-change-2.ensures.fits c.requires.parts c.in_ok-change-2.ensures.resolved
