use Rattle.std.proofs.Common.{◌≡◌, false, take}
use Rattle.std.specs.List.{list_any}
use Rattle.catalogue_editions.specs.Ids.{has_contributor}
use Rattle.turn_plans.proofs.steps.opened_holder.Given as goal

abbrev pub invariant-loop-place : goal.invariant-loop-place
invariant-loop-place l = list_any (λ e. has_contributor l.id e.value) (take l.place l.opened) ≡ false
