use Rattle.std.proofs.Common.{List, ap, subst, sym, ◌∙◌}
use Rattle.union_base.specs.declared.record_id.RecordId.{RecordId}
use Rattle.turn_plans.specs.Homes.{Block}
use Rattle.record_homes.specs.Moves.{StayAt, housed}
use Rattle.catalogue_core.specs.Housing.{contributors_at}
use Rattle.catalogue_core.proofs.housing.house_block.Goals as goal

pub house_newcomers-requires : goal.house_newcomers-requires
house_newcomers-requires c =
    subst (λ (before : List RecordId). StayAt c.args.number c.args.homes.now.entries before c.as_slice-ids.result.now) (sym c.contributors_at-before.ensures)
    (subst (StayAt c.args.number c.args.homes.now.entries (contributors_at c.args.blocks.now.blocks c.args.number))
    (sym (c.as_slice-ids.ensures.value ∙ c.contributors.ensures ∙ ap (λ (b : Block). b.value.content.contributors) c.placed.view_is)) c.requires)

pub returns : goal.returns
returns c =
    c.house_newcomers.ensures
    ∙ ap (housed c.args.number c.args.homes.now.entries) (c.as_slice-ids.ensures.value ∙ c.contributors.ensures ∙ ap (λ (b : Block). b.value.content.contributors) c.placed.view_is)
