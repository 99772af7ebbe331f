use Rattle.std.proofs.Common.{length, refl, sym, ap, ◌∙◌}
use Rattle.std.proofs.lemmas.Option.{slice_get_read}
use Rattle.turn_plans.specs.Homes.{Block}
use Rattle.catalogue_editions.specs.Ids.{has_contributor}
use Rattle.turn_plans.proofs.steps.opened_holder.Goals as goal

pub returns-then-has_contributor-clause-found : goal.returns-then-has_contributor-clause-found
returns-then-has_contributor-clause-found c = (
  c.index-opened-place.result,
  slice_get_read c.args.opened.now (length c.args.opened.now) c.loop-place.place c.index-opened-place.result refl c.loop-place-test.true c.index-opened-place.is,
  ap (λ (b : Block). has_contributor c.args.id.now b.value) (sym c.placed.view_is) ∙ sym c.has_contributor.ensures ∙ c.if-has_contributor.true,
)
