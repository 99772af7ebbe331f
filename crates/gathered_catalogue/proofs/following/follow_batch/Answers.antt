use Rattle.std.proofs.Common.{◌≡◌, ◌++◌, ◌∷◌, [], refl, sym, ap, subst, ◌∙◌}
use Rattle.std.specs.Prelude.{Option, Some, IsSome}
use Rattle.std.specs.Option.{option_map, option_map_or}
use Rattle.catalogue_editions.specs.declared.batch.Batch.{Batch}
use Rattle.union_base.specs.declared.record_id.RecordId.{RecordId}
use Rattle.turn_plans.specs.Histories.{at_id, after_batch, current}
use Rattle.turn_plans.specs.Keeping.{batches, loaded_at}
use Rattle.gathered_catalogue.specs.Tables.{Shelf, place_at}
use Rattle.gathered_catalogue.proofs.FollowLaws.{place-written, found-with, current-grown}
use Rattle.gathered_catalogue.proofs.following.follow_batch.Goals as goal

pub returns-clause-current : goal.returns-clause-current
returns-clause-current c = λ entry same.
    let old = c.args.libraries.now.entries in
    let new = (c.get_mut.follows.lender c.follow_each.new.places).entries in
    let library = c.args.batch.now.library in
    let after = c.follow_each.new.places in
    let before = c.args.history.now in
    let was = ap (λ (o : Option Shelf). option_map_or (λ (shelf : Shelf). shelf.rows) o []) c.in-Some.ensures.value in
    let writes = ((c.get_mut.follows.holds after).3 (subst IsSome c.in-Some.ensures.value refl)).0 in
    let with = c.follow_each.ensures.places old (found-with before old library c.in-Some.places.now.rows was c.requires.current) in
    current-grown before entry new
    (subst (λ (batch : Batch). (id : RecordId) → option_map (loaded_at (batches before ++ batch ∷ [])) (place_at new id) ≡ option_map Some (at_id (after_batch (current before) batch) id)) (sym same)
    (λ id. ap (option_map (loaded_at (batches before ++ c.args.batch.now ∷ []))) (place-written old new library after writes id) ∙ with.found id))

pub returns-clause-outcomes : goal.returns-clause-outcomes
returns-clause-outcomes c =
    let old = c.args.libraries.now.entries in
    let was = ap (λ (o : Option Shelf). option_map_or (λ (shelf : Shelf). shelf.rows) o []) c.in-Some.ensures.value in
    c.follow_each.ensures.outcomes old (found-with c.args.history.now old c.args.batch.now.library c.in-Some.places.now.rows was c.requires.current)
