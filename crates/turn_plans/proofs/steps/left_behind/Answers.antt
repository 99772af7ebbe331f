use Rattle.std.proofs.Common.{◌≡◌, ◌++◌, ◌∷◌, [], sym, ap, ◌∙◌}
use Rattle.std.specs.Prelude.{Option, Some, filter_map, option_copied}
use Rattle.std.specs.Option.{option_map}
use Rattle.turn_plans.specs.Homes.{Block}
use Rattle.turn_plans.specs.Keeping.{batches}
use Rattle.turn_plans.specs.Plans.{base_beside}
use Rattle.catalogue_editions.specs.declared.edition.Edition.{Edition}
use Rattle.turn_plans.proofs.PlanLaws.{holder-stands}
use Rattle.turn_plans.proofs.steps.left_behind.Goals as goal

pub unreachable-requires : goal.unreachable-requires
unreachable-requires c = holder-stands c.requires.planned.1 c.args.id.now c.requires.planned.2 c.in_default.ensures.none

pub returns : goal.returns
returns c =
    let (e, stands, bears) = c.in-Some.ensures.found in
    let both : ◌≡◌ {A = Option Edition} (Some c.in-Some-member.edition.now) (Some e.value) =
    sym (ap option_copied c.in-Some-member.is) ∙ c.member.ensures.value ∙ ap (option_map (λ (b : Block). b.value)) stands in
    let same : c.in-Some-member.edition.now ≡ e.value = cc in
    record {
      block = e;
      stands = stands;
      bears = bears;
      are = c.in_ok-left.ensures
          ∙ ap (filter_map (base_beside (batches c.args.context.now.history.now ++ c.args.context.now.batch.now ∷ []) c.args.context.now.homes.now.entries c.args.plan.now.touched.entries c.args.id.now))
          (c.as_slice-ids.ensures.value ∙ c.contributors.ensures ∙ ap (λ (x : Edition). x.content.contributors) same);
    }
