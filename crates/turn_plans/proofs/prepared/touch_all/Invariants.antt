use Rattle.std.proofs.Common.{◌++◌, ◌∷◌, []}
use Rattle.turn_plans.specs.Histories.{current}
use Rattle.turn_plans.specs.Keeping.{batches}
use Rattle.turn_plans.proofs.TouchLaws.{TouchesOn}
use Rattle.turn_plans.proofs.prepared.touch_all.Given as goal

-- what was touched follows the operations so far
abbrev pub invariant-loop-i : goal.invariant-loop-i
invariant-loop-i l =
    TouchesOn (batches l.context.history.now ++ l.context.batch.now ∷ []) l.context.homes.now.entries l.context.batch.now.library l.context.batch.now.ops (current l.context.history.now) l.touched.entries l.outcomes.items l.i
