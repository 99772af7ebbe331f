use Rattle.std.proofs.Common.{◌++◌, List, append-nil, sym, ap, subst, ◌∙◌}
use Rattle.std.specs.Prelude.{filter_map, nat_eq}
use Rattle.std.specs.List.{IsDistinct}
use Rattle.std.specs.Cmp.Lexicographic.{pointwise}
use Rattle.std.specs.Map.{keys_of, values_of}
use Rattle.catalogue_editions.specs.declared.edition.Edition.{Edition}
use Rattle.turn_plans.specs.Keeping.{batches, loaded_at}
use Rattle.gathered_catalogue.specs.Tables.{Shelf}
use Rattle.gathered_catalogue.proofs.GatherLaws.{gains}
use Rattle.gathered_catalogue.proofs.library_places.LibraryPlaces.push_loads.Goals as goal

pub returns : goal.returns
returns c =
    let f = loaded_at (batches c.args.history.now) in
    let records = c.loop-place.records.items in
    gains (batches c.args.history.now) c.args.self.now.rows c.args.records.now.items records
    (subst (λ (v : Shelf). IsDistinct (pointwise nat_eq) (keys_of v.rows)) c.self.view_is c.len.ensures.unique)
    (sym (append-nil records) ∙ ap (λ places. records ++ filter_map f places) (sym c.in-None.ensures.steps.0) ∙ c.loop-place.invariant
    ∙ ap (λ (before : List Edition). before ++ filter_map f (values_of c.args.self.now.rows)) c.reserve.ensures.items)
