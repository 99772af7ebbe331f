use Rattle.std.proofs.Common.{◌≡◌, ◌<◌, ◌++◌, ◌∷◌, [], List, length, get_or, refl, sym, ap, subst, ◌∙◌}
use Rattle.std.specs.List.{list_any}
use Rattle.turn_plans.specs.Histories.{current, id_of}
use Rattle.turn_plans.specs.Keeping.{batches}
use Rattle.turn_plans.specs.Plans.{IsPlanned}
use Rattle.turn_plans.specs.PreparedReaches.{leaves}
use Rattle.catalogue_editions.specs.declared.op.Op.{Op}
use Rattle.turn_plans.proofs.LeavingLaws.{leaves-begin, leaves-paid, leaves-next, none-leaves}
use Rattle.turn_plans.proofs.TurnLaws.{ordered-current, plan-begins}
use Rattle.turn_plans.proofs.prepared.without_named.Goals as goal

pub returns-then-not-any_leaves-clause-planned : goal.returns-then-not-any_leaves-clause-planned
returns-then-not-any_leaves-clause-planned g c =
    let history = c.args.context.now.history.now in
    let batch = c.args.context.now.batch.now in
    let homes = c.args.context.now.homes.now.entries in
    let blocks = c.args.context.now.blocks.now.blocks in
    let stay = none-leaves batch.library (current history) (current history) batch.ops (ordered-current history) (λ q is. is)
    (ap (list_any leaves) (sym c.requires.found) ∙ sym c.any_leaves.ensures ∙ c.if-not-any_leaves.true) in
    subst (λ all. IsPlanned (batches history ++ batch ∷ []) homes blocks all c.in_ok-change.change.closed.items c.in_ok-change.change.opened.items c.new.result.entries) (sym stay)
    (plan-begins history batch homes blocks c.in_ok-change.change.closed.items c.in_ok-change.change.opened.items c.new.result.entries c.in_ok-change.ensures.closed c.in_ok-change.ensures.opened c.new.ensures c.requires.current c.requires.resolved
    c.in_ok-change.ensures.fits)

pub loop-op-init : goal.loop-op-init
loop-op-init g c =
    leaves-begin (batches c.args.context.now.history.now ++ c.args.context.now.batch.now ∷ []) c.args.context.now.homes.now.entries c.args.context.now.blocks.now.blocks c.args.context.now.batch.now.library c.args.context.now.batch.now.ops (current c.args.context.now.history.now)
    c.in_ok-change.change.closed.items c.in_ok-change.change.opened.items c.new.result.entries c.args.steps.now
    (plan-begins c.args.context.now.history.now c.args.context.now.batch.now c.args.context.now.homes.now.entries c.args.context.now.blocks.now.blocks c.in_ok-change.change.closed.items c.in_ok-change.change.opened.items c.new.result.entries
    c.in_ok-change.ensures.closed c.in_ok-change.ensures.opened c.new.ensures c.requires.current c.requires.resolved c.in_ok-change.ensures.fits)

pub returns-in_err-plan-clause-cost : goal.returns-in_err-plan-clause-cost
returns-in_err-plan-clause-cost g c =
    let op = c.op-item.result in
    leaves-paid c.loop-op.invariant op (id_of c.args.context.now.batch.now.library op) refl (subst (λ (xs : List Op). c.loop-op.op-index < length xs) c.as_slice-ops.ensures c.loop-op-test.true)
    (subst (λ (xs : List Op). op ≡ get_or xs c.loop-op.op-index op) c.as_slice-ops.ensures c.op-item.is) c.withdraw_named.new.steps
    c.withdraw_named.ensures.free c.withdraw_named.ensures.cost

pub loop-op-preserved : goal.loop-op-preserved
loop-op-preserved g c =
    let op = c.op-item.result in
    let next = c.in_ok-plan.plan in
    leaves-next c.loop-op.invariant op (id_of c.args.context.now.batch.now.library op) refl (subst (λ (xs : List Op). c.loop-op.op-index < length xs) c.as_slice-ops.ensures c.loop-op-test.true)
    (subst (λ (xs : List Op). op ≡ get_or xs c.loop-op.op-index op) c.as_slice-ops.ensures c.op-item.is) c.withdraw_named.new.steps
    c.withdraw_named.ensures.free c.withdraw_named.ensures.cost next.change.closed.items next.change.opened.items next.touched.entries c.in_ok-plan.ensures.planned
