use Rattle.std.proofs.Common.{◌≡◌, ap, subst, sym, ◌∙◌, arith}
use Rattle.authority_names.specs.Places.{IsPlace, joined_place}
use Rattle.authority_names.proofs.TableLaws.{entry_at, kept, led_after, longer, place_joined, places_after}
use Rattle.authority_names.proofs.leads.lead_to.Goals as goal

pub returns-clause-places : goal.returns-clause-places
returns-clause-places c =
    let told = c.in-Ok.ensures in
    let long = longer _ _ _ told.len in
    let is : c.joined-joined.result ≡ joined_place (entry_at c.args.headings.now.entries c.args.heading) c.args.place =
    c.joined-joined.ensures ∙ ap (λ known. joined_place known c.args.place) c.get.ensures.value in
    let place = c.requires.place in
    places_after c.args.headings.now.entries c.insert.new.self.entries c.args.heading c.joined-joined.result told.entries told.updates.0 long c.requires.places
    (subst (IsPlace _) (sym is) (place_joined (entry_at c.args.headings.now.entries c.args.heading) c.args.place _ (omega arith)))

pub returns-clause-kept : goal.returns-clause-kept
returns-clause-kept c =
    let told = c.in-Ok.ensures in
    kept c.args.headings.now.entries c.insert.new.self.entries c.args.heading c.joined-joined.result told.entries told.updates.0 (longer _ _ _ told.len) c.requires.places c.args.place

pub returns-clause-table : goal.returns-clause-table
returns-clause-table c =
    let told = c.in-Ok.ensures in
    led_after c.args.headings.now.entries c.insert.new.self.entries c.args.heading c.joined-joined.result told.entries told.updates.0 (longer _ _ _ told.len) c.requires.places
    told.unique c.args.place (c.joined-joined.ensures ∙ ap (λ known. joined_place known c.args.place) c.get.ensures.value)
