use Rattle.std.proofs.Common.{List, [], sym, subst}
use Rattle.swoosh_resolver.specs.Changes.{view_of}
use Rattle.catalogue_editions.specs.Joining.{join}
use Rattle.catalogue_editions.specs.JoinLaws.{edition_join_laws}
use Rattle.catalogue_editions.specs.Matching.{match, is_found}
use Rattle.catalogue_editions.specs.MatchLaws.{edition_match_laws}
use Rattle.catalogue_editions.specs.declared.edition.Edition.{Edition}
use Rattle.merge_laws.proofs.InsertingAll.{ComesOn, comes-begin, comes-next, comes-paid}
use Rattle.turn_plans.proofs.prepared.insert_parts.Goals as goal

pub loop-part-init : goal.loop-part-init
loop-part-init g c = record {
  fits = c.requires;
  coming =
      let view = view_of c.args.blocks.now.blocks c.args.change.closed.items c.args.change.opened.items in
      let begin = comes-begin edition_join_laws edition_match_laws view c.args.parts.items c.args.steps.now c.requires.apart in
      subst (λ (rest : List Edition). ComesOn match join is_found view c.args.parts.items view [] rest c.args.steps.now c.args.steps.now) (sym c.into_iter-part-iterator.ensures.into_iter_gives.0) begin;
}

pub returns-in_err-change-clause-cost : goal.returns-in_err-change-clause-cost
returns-in_err-change-clause-cost g c =
    comes-paid edition_join_laws edition_match_laws c.loop-part.invariant.coming c.in-Some.part c.next.new.self.rest.items c.in-Some.ensures.steps.0 c.plan_insert.new.steps c.plan_insert.ensures.cost

pub loop-part-preserved : goal.loop-part-preserved
loop-part-preserved g c = record {
  fits = c.in_ok-change.ensures.fits;
  coming = comes-next edition_join_laws edition_match_laws c.loop-part.invariant.coming c.in-Some.part c.next.new.self.rest.items c.in-Some.ensures.steps.0 c.plan_insert.new.steps c.plan_insert.ensures.cost _ c.in_ok-change.ensures.resolved;
}
