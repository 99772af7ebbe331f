use Rattle.std.proofs.Common.{◌++◌, ◌∷◌, [], sym, ap, ◌∙◌}
use Rattle.std.specs.Prelude.{Some, None, option_copied}
use Rattle.std.proofs.lemmas.List.{append-nil}
use Rattle.turn_plans.specs.Keeping.{batches}
use Rattle.turn_plans.specs.Plans.{base_beside}
use Rattle.turn_plans.proofs.Housing.{mapped-next}
use Rattle.turn_plans.proofs.steps.bases_beside.Goals as goal
use Rattle.turn_plans.proofs.steps.bases_beside.Goals.{in-Some+in_ok-copied+in_ok-push, in_default}

pub loop-id-preserved : goal.loop-id-preserved
loop-id-preserved c =
    let base = base_beside (batches c.args.context.now.history.now ++ c.args.context.now.batch.now ∷ []) c.args.context.now.homes.now.entries c.args.touched.now.entries c.args.gone.now in
    elim c.match-base_beside.branch [
      | in-Some+in_ok-copied+in_ok-push w ↦
          mapped-next base c.args.ids.now c.loop-id.id-index c.id-item.result c.loop-id-test.true c.id-item.is c.loop-id.bases.items c.match-base_beside.bases.items c.loop-id.invariant
          (Some w.in_ok-copied.field-0) (sym c.base_beside.ensures ∙ ap option_copied w.in-Some.is ∙ ap Some (sym w.in_ok-copied.ensures))
          (ap (λ bases. bases.items) w.bases-is ∙ w.in_ok-push.ensures.items)
      | in_default w ↦
          mapped-next base c.args.ids.now c.loop-id.id-index c.id-item.result c.loop-id-test.true c.id-item.is c.loop-id.bases.items c.match-base_beside.bases.items c.loop-id.invariant
          None (sym c.base_beside.ensures ∙ ap option_copied w.in_default.is)
          (ap (λ bases. bases.items) w.bases-is ∙ sym (append-nil c.loop-id.bases.items))
    ]
