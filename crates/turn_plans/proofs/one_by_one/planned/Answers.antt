use Rattle.std.proofs.Common.{◌≡◌, ◌<◌, ◌≤◌, ◌++◌, ◌∷◌, [], List, length, get_or, subst, refl, arith}
use Rattle.turn_plans.specs.Histories.{current}
use Rattle.turn_plans.specs.Keeping.{batches}
use Rattle.catalogue_editions.specs.declared.op.Op.{Op}
use Rattle.turn_plans.proofs.TurnLaws.{plan-begins, plans-begin, plans-paid, plans-next, plans-all, answers-all, paid-all, op-loads, op-own}
use Rattle.turn_plans.proofs.one_by_one.planned.Goals as goal

pub loop-i-init : goal.loop-i-init
loop-i-init g c =
    plans-begin (batches c.args.context.now.history.now ++ c.args.context.now.batch.now ∷ []) c.args.context.now.homes.now.entries c.args.context.now.blocks.now.blocks c.args.context.now.batch.now.library c.args.context.now.batch.now.ops (current c.args.context.now.history.now)
    c.start.result.closed.items c.start.result.opened.items c.in_ok-touched.touched.entries c.in_ok-outcomes.outcomes.items c.args.steps.now
    (plan-begins c.args.context.now.history.now c.args.context.now.batch.now c.args.context.now.homes.now.entries c.args.context.now.blocks.now.blocks c.start.result.closed.items c.start.result.opened.items c.in_ok-touched.touched.entries
    c.start.ensures.closed c.start.ensures.opened c.in_ok-touched.ensures c.requires.current c.requires.resolved c.start.ensures.fits)
    c.in_ok-outcomes.ensures.items

pub plan_op-requires-clause-own : goal.plan_op-requires-clause-own
plan_op-requires-clause-own g c =
    let op = c.index-ops-i.result in
    op-own c.args.context.now.batch.now c.loop-i.i op (subst (λ (xs : List Op). c.loop-i.i < length xs) c.as_slice-ops.ensures c.loop-i-test.true)
    (subst (λ (xs : List Op). op ≡ get_or xs c.loop-i.i op) c.as_slice-ops.ensures c.index-ops-i.is)

pub plan_op-requires-clause-loads : goal.plan_op-requires-clause-loads
plan_op-requires-clause-loads g c =
    let op = c.index-ops-i.result in
    op-loads c.args.context.now.history.now c.args.context.now.batch.now c.loop-i.i op (length c.args.context.now.history.now) refl (subst (λ (xs : List Op). c.loop-i.i < length xs) c.as_slice-ops.ensures c.loop-i-test.true)
    (subst (λ (xs : List Op). op ≡ get_or xs c.loop-i.i op) c.as_slice-ops.ensures c.index-ops-i.is)

pub returns-in_err-push-clause-cost : goal.returns-in_err-push-clause-cost
returns-in_err-push-clause-cost g c =
    let op = c.index-ops-i.result in
    plans-paid c.loop-i.invariant op (subst (λ (xs : List Op). c.loop-i.i < length xs) c.as_slice-ops.ensures c.loop-i-test.true)
    (subst (λ (xs : List Op). op ≡ get_or xs c.loop-i.i op) c.as_slice-ops.ensures c.index-ops-i.is) c.plan_op.new.steps c.plan_op.ensures.cost

pub loop-i-preserved : goal.loop-i-preserved
loop-i-preserved g c =
    let op = c.index-ops-i.result in
    let next = c.in_ok-next.next in
    plans-next c.loop-i.invariant op (subst (λ (xs : List Op). c.loop-i.i < length xs) c.as_slice-ops.ensures c.loop-i-test.true)
    (subst (λ (xs : List Op). op ≡ get_or xs c.loop-i.i op) c.as_slice-ops.ensures c.index-ops-i.is) c.plan_op.new.steps c.plan_op.ensures.cost
    next.change.closed.items next.change.opened.items next.touched.entries c.in_ok-next.ensures.planned c.in_ok-next.outcome c.in_ok-next.ensures.outcome
    c.push.new.self.items c.in_ok-push.ensures.items

pub returns-in_err-outcomes-clause-cost : goal.returns-in_err-outcomes-clause-cost
returns-in_err-outcomes-clause-cost g c = λ number r. omega arith

pub returns-in_err-touched-clause-cost : goal.returns-in_err-touched-clause-cost
returns-in_err-touched-clause-cost g c = λ number r. omega arith

pub returns-in_err-next-clause-cost : goal.returns-in_err-next-clause-cost
returns-in_err-next-clause-cost g c =
    let op = c.index-ops-i.result in
    plans-paid c.loop-i.invariant op (subst (λ (xs : List Op). c.loop-i.i < length xs) c.as_slice-ops.ensures c.loop-i-test.true)
    (subst (λ (xs : List Op). op ≡ get_or xs c.loop-i.i op) c.as_slice-ops.ensures c.index-ops-i.is) c.plan_op.new.steps c.plan_op.ensures.cost

pub returns-clause-planned : goal.returns-clause-planned
returns-clause-planned g c = plans-all c.loop-i.invariant (subst (λ (xs : List Op). length xs ≤ c.loop-i.i) c.as_slice-ops.ensures c.loop-i-test.false)

pub returns-clause-outcomes : goal.returns-clause-outcomes
returns-clause-outcomes g c = answers-all c.loop-i.invariant (subst (λ (xs : List Op). length xs ≤ c.loop-i.i) c.as_slice-ops.ensures c.loop-i-test.false)

pub returns-clause-cost : goal.returns-clause-cost
returns-clause-cost g c = paid-all c.loop-i.invariant (subst (λ (xs : List Op). length xs ≤ c.loop-i.i) c.as_slice-ops.ensures c.loop-i-test.false)
