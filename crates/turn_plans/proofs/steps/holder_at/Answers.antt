use Rattle.std.proofs.Common.{List, sym, ap, ◌∙◌}
use Rattle.std.specs.Prelude.{slice_get}
use Rattle.std.specs.List.{list_any}
use Rattle.turn_plans.specs.Homes.{Block}
use Rattle.catalogue_editions.specs.Ids.{has_contributor}
use Rattle.turn_plans.proofs.Housing.{view-none}
use Rattle.turn_plans.proofs.steps.holder_at.Goals as goal

pub returns-in-Some-opened_holder-clause-found : goal.returns-in-Some-opened_holder-clause-found
returns-in-Some-opened_holder-clause-found c =
    let (e, at, has) = c.in-Some-opened_holder.ensures.found in
    (e, ap (λ (xs : List Block). slice_get xs c.in-Some-opened_holder.place) (sym c.as_slice.ensures.value) ∙ at, has)

pub returns-in-None-opened_holder-clause-none : goal.returns-in-None-opened_holder-clause-none
returns-in-None-opened_holder-clause-none c =
    view-none c.args.blocks.now.blocks c.args.change.now.closed.items c.args.change.now.opened.items (has_contributor c.args.id.now) c.in-None.ensures.none
    (ap (list_any (λ (e : Block). has_contributor c.args.id.now e.value)) (sym c.as_slice.ensures.value) ∙ c.in-None-opened_holder.ensures.none)
