use Rattle.std.proofs.Common.{◌++◌, ◌∷◌, []}
use Rattle.turn_plans.specs.Histories.{current}
use Rattle.turn_plans.specs.Keeping.{batches}
use Rattle.turn_plans.proofs.LeavingLaws.{LeavesOn}
use Rattle.turn_plans.proofs.prepared.without_named.Given as goal

-- the records that the operations so far name are withdrawn
abbrev pub invariant-loop-op : goal.invariant-loop-op
invariant-loop-op g l =
    LeavesOn (batches l.context.history.now ++ l.context.batch.now ∷ []) l.context.homes.now.entries l.context.blocks.now.blocks l.context.batch.now.library l.context.batch.now.ops (current l.context.history.now)
    l.plan.change.closed.items l.plan.change.opened.items l.plan.touched.entries l.op-index l.initial.steps l.steps
