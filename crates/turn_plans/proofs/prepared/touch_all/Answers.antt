use Rattle.std.proofs.Common.{◌≡◌, ◌<◌, ◌++◌, ◌∷◌, [], List, length, get_or, subst, refl}
use Rattle.turn_plans.specs.Keeping.{batches}
use Rattle.catalogue_editions.specs.declared.op.Op.{Op}
use Rattle.turn_plans.proofs.TouchLaws.{touches-begin, touches-next}
use Rattle.turn_plans.proofs.TurnLaws.{op-loads, op-own}
use Rattle.turn_plans.proofs.prepared.touch_all.Goals as goal

pub loop-i-init : goal.loop-i-init
loop-i-init c =
    touches-begin c.args.context.now.history.now c.args.context.now.batch.now c.args.context.now.homes.now.entries c.in_ok-touched.touched.entries c.in_ok-outcomes.outcomes.items
    c.in_ok-touched.ensures c.in_ok-outcomes.ensures.items c.requires

pub touch_op-requires : goal.touch_op-requires
touch_op-requires c =
    let op = c.index-ops-i.result in
    record {
      own = op-own c.args.context.now.batch.now c.loop-i.i op (subst (λ (xs : List Op). c.loop-i.i < length xs) c.as_slice-ops.ensures c.loop-i-test.true)
          (subst (λ (xs : List Op). op ≡ get_or xs c.loop-i.i op) c.as_slice-ops.ensures c.index-ops-i.is);
    }

pub loop-i-preserved : goal.loop-i-preserved
loop-i-preserved c =
    let op = c.index-ops-i.result in
    let all = batches c.args.context.now.history.now ++ c.args.context.now.batch.now ∷ [] in
    let below : c.loop-i.i < length c.args.context.now.batch.now.ops = subst (λ (xs : List Op). c.loop-i.i < length xs) c.as_slice-ops.ensures c.loop-i-test.true in
    let is : op ≡ get_or c.args.context.now.batch.now.ops c.loop-i.i op = subst (λ (xs : List Op). op ≡ get_or xs c.loop-i.i op) c.as_slice-ops.ensures c.index-ops-i.is in
    let loads = op-loads c.args.context.now.history.now c.args.context.now.batch.now c.loop-i.i op (length c.args.context.now.history.now) refl below is in
    touches-next c.loop-i.invariant op below is c.touch_op.new.touched.entries (λ now t. c.in_ok-outcome.ensures.touched all now loads t) c.in_ok-outcome.outcome
    (λ now t. c.in_ok-outcome.ensures.outcome all now t) c.push.new.self.items c.in_ok-push.ensures.items
