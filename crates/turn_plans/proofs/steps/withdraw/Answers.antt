use Rattle.turn_plans.proofs.PlanLaws.{left-apart, left-resolved, left-paid, plan-withdrawn}
use Rattle.swoosh_resolver.specs.Changes.{view_of}
use Rattle.turn_plans.proofs.steps.withdraw.Goals as goal

pub plan_split-requires-clause-apart : goal.plan_split-requires-clause-apart
plan_split-requires-clause-apart g c =
    left-apart c.requires.planned.1 c.args.id.now c.in_ok-at.at c.in_ok-at.left.items c.in_ok-at.ensures c.in_ok-parts.parts.items c.in_ok-parts.ensures.resolved

pub returns-in_err-parts-clause-cost : goal.returns-in_err-parts-clause-cost
returns-in_err-parts-clause-cost g c = λ all number p r.
    left-paid p c.args.id.now c.in_ok-at.at c.in_ok-at.left.items c.in_ok-at.ensures number c.args.steps.now c.reopen.new.steps c.reopen.ensures.cost r

pub returns-in_err-change-clause-cost : goal.returns-in_err-change-clause-cost
returns-in_err-change-clause-cost g c = λ all number p r.
    left-paid p c.args.id.now c.in_ok-at.at c.in_ok-at.left.items c.in_ok-at.ensures number c.args.steps.now c.reopen.new.steps c.reopen.ensures.cost r

pub returns-in_err-copied-clause-cost : goal.returns-in_err-copied-clause-cost
returns-in_err-copied-clause-cost g c = λ all number p r.
    left-paid p c.args.id.now c.in_ok-at.at c.in_ok-at.left.items c.in_ok-at.ensures number c.args.steps.now c.reopen.new.steps c.reopen.ensures.cost r

pub returns-in_err-insert-clause-cost : goal.returns-in_err-insert-clause-cost
returns-in_err-insert-clause-cost g c = λ all number p r.
    left-paid p c.args.id.now c.in_ok-at.at c.in_ok-at.left.items c.in_ok-at.ensures number c.args.steps.now c.reopen.new.steps c.reopen.ensures.cost r

pub returns-clause-cost : goal.returns-clause-cost
returns-clause-cost g c = λ all number p r.
    left-paid p c.args.id.now c.in_ok-at.at c.in_ok-at.left.items c.in_ok-at.ensures number c.args.steps.now c.reopen.new.steps c.reopen.ensures.cost r

pub returns-clause-planned : goal.returns-clause-planned
returns-clause-planned g c = λ all p.
    let change = c.in_ok-change.change in
    plan-withdrawn p c.args.id.now c.in_ok-copied.field-0 change.closed.items change.opened.items c.insert.new.self.entries c.in_ok-copied.ensures c.in_ok-insert.ensures.entries
    c.in_ok-change.ensures.fits
    (left-resolved p c.args.id.now c.in_ok-at.at c.in_ok-at.left.items c.in_ok-at.ensures c.in_ok-parts.parts.items
    (view_of c.args.context.now.blocks.now.blocks change.closed.items change.opened.items) c.in_ok-parts.ensures.resolved c.in_ok-change.ensures.view)
