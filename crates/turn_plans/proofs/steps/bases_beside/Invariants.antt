use Rattle.std.proofs.Common.{◌≡◌, ◌++◌, ◌∷◌, [], take}
use Rattle.std.specs.Prelude.{filter_map}
use Rattle.turn_plans.specs.Keeping.{batches}
use Rattle.turn_plans.specs.Plans.{base_beside}
use Rattle.turn_plans.proofs.steps.bases_beside.Given as goal

abbrev pub invariant-loop-id : goal.invariant-loop-id
invariant-loop-id l =
    l.bases.items ≡ filter_map (base_beside (batches l.context.history.now ++ l.context.batch.now ∷ []) l.context.homes.now.entries l.touched.entries l.gone) (take l.id-index l.ids)
