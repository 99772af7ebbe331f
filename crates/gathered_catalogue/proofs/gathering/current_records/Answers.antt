use Rattle.std.proofs.Common.{subst}
use Rattle.turn_plans.specs.Keeping.{batches}
use Rattle.gathered_catalogue.proofs.GatherLaws.{GathersOn, shelf-found, gathers-next, gathers-all}
use Rattle.gathered_catalogue.proofs.gathering.current_records.Goals as goal

pub loop-places-preserved : goal.loop-places-preserved
loop-places-preserved c =
    gathers-next (batches c.args.history.now) c.args.libraries.now.entries c.loop-places.places-iterator c.loop-places.records.items c.loop-places.invariant
    (c.in-Some.field-0-0.now, c.in-Some.places.now) c.next.new.self c.in-Some.ensures.steps c.push_loads.new.records.items c.in_ok-push_loads.ensures

pub returns : goal.returns
returns c =
    gathers-all c.args.history.now c.args.libraries.now.entries c.requires (shelf-found c.args.libraries.now.entries c.into_iter-places-iterator.ensures.into_iter_gives.5) c.loop-places.records.items
    (subst (λ rest. GathersOn (batches c.args.history.now) c.args.libraries.now.entries rest c.loop-places.records.items) c.in-None.ensures.steps.0 c.loop-places.invariant)
