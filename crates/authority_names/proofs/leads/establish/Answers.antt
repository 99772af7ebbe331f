use Rattle.std.proofs.Common.{slice_get, ◌∙◌}
use Rattle.std.specs.Map.{keys_of}
use Rattle.authority_names.specs.declared.leads.Lead.TheVariants.{Nowhere}
use Rattle.authority_names.proofs.TableLaws.{longer, new_place, places_after, table_after}
use Rattle.authority_names.proofs.leads.establish.Goals as goal

pub returns-clause-places : goal.returns-clause-places
returns-clause-places c =
    let told = c.in-Ok.ensures in
    places_after c.args.headings.now.entries c.insert_full.new.self.entries c.args.heading Nowhere told.entries told.updates.0 (longer _ _ _ told.len) c.requires.places tt

pub returns-clause-place : goal.returns-clause-place
returns-clause-place c =
    let told = c.in-Ok.ensures in
    (λ i. slice_get (keys_of (told.entries i)) (told.index i)) ∙ new_place c.args.headings.now.entries c.args.heading Nowhere

pub returns-clause-table : goal.returns-clause-table
returns-clause-table c =
    let told = c.in-Ok.ensures in
    table_after c.args.headings.now.entries c.insert_full.new.self.entries c.args.heading Nowhere told.entries told.updates.0 (longer _ _ _ told.len) c.requires.places
