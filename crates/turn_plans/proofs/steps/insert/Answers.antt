use Rattle.std.proofs.Common.{◌≡◌, ◌∙◌, arith}
use Rattle.catalogue_editions.specs.Ids.{least}
use Rattle.turn_plans.proofs.PlanLaws.{plan-inserted, insert-paid}
use Rattle.turn_plans.proofs.steps.insert.Goals as goal

pub returns-in_err-copied-clause-cost : goal.returns-in_err-copied-clause-cost
returns-in_err-copied-clause-cost g c = λ all number p r. omega arith

pub returns-in_err-insert-clause-cost : goal.returns-in_err-insert-clause-cost
returns-in_err-insert-clause-cost g c = λ all number p r. omega arith

pub returns-in_err-copy-clause-cost : goal.returns-in_err-copy-clause-cost
returns-in_err-copy-clause-cost g c = λ all number p r. omega arith

pub returns-in_err-change-clause-cost : goal.returns-in_err-change-clause-cost
returns-in_err-change-clause-cost g c = λ all number p r.
    insert-paid p c.args.edition.now number c.args.steps.now c.plan_insert.new.steps (rw c.in_ok-copy.ensures at c.plan_insert.ensures.cost) r

pub returns-clause-planned : goal.returns-clause-planned
returns-clause-planned g c = λ all p new.
    let key : c.in_ok-copied.field-0 ≡ least c.args.edition.now = c.in_ok-copied.ensures ∙ c.least.ensures in
    plan-inserted p c.args.edition.now (least c.args.edition.now) c.in_ok-copied.field-0 c.args.place c.in_ok-change.change.closed.items c.in_ok-change.change.opened.items c.insert.new.self.entries
    key c.requires.own new c.requires.loads c.in_ok-insert.ensures.entries c.in_ok-change.ensures.fits (rw c.in_ok-copy.ensures at c.in_ok-change.ensures.resolved)

pub returns-clause-cost : goal.returns-clause-cost
returns-clause-cost g c = λ all number p r.
    insert-paid p c.args.edition.now number c.args.steps.now c.plan_insert.new.steps (rw c.in_ok-copy.ensures at c.plan_insert.ensures.cost) r
