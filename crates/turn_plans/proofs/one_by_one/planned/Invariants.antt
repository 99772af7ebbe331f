-- some records are current by the plan, from which the operations that are left go on
use Rattle.std.proofs.Common.{◌++◌, ◌∷◌, []}
use Rattle.turn_plans.specs.Histories.{current}
use Rattle.turn_plans.specs.Keeping.{batches}
use Rattle.turn_plans.proofs.TurnLaws.{PlansOn}
use Rattle.turn_plans.proofs.one_by_one.planned.Given as goal

abbrev pub invariant-loop-i : goal.invariant-loop-i
invariant-loop-i g l =
    PlansOn (batches l.context.history.now ++ l.context.batch.now ∷ []) l.context.homes.now.entries l.context.blocks.now.blocks l.context.batch.now.library l.context.batch.now.ops (current l.context.history.now) l.plan.change.closed.items l.plan.change.opened.items l.plan.touched.entries
    l.outcomes.items l.i l.initial.steps l.steps
