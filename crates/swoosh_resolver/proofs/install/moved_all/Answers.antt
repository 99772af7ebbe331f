use Rattle.std.proofs.Common.{◌≡◌, ℕ, ◌++◌, ◌∷◌, [], Contains, append_assoc, sym, ◌∙◌, ap, subst}
use Rattle.std.proofs.lemmas.List.{map-append}
use Rattle.std.proofs.lemmas.List.Elements.{Contains-append_right}
use Rattle.merge_laws.proofs.Places.{Contains-head}
use Rattle.swoosh_resolver.specs.Tables.{Entry, at_rows}
use Rattle.swoosh_resolver.proofs.install.moved_all.Goals as goal

pub moved_places-places-requires : goal.moved_places-places-requires
moved_places-places-requires g c place among =
    let done = c.loop-fresh.yielded in
    let one = c.in-Some.fresh in
    let all : done ++ (one ∷ c.next.new.self.rest.items) ≡ c.args.values.items = rw c.in-Some.ensures.steps.0 at c.loop-fresh.invariant.rest in
    let member : Contains c.args.values.items one = subst (λ l. Contains l one) all (Contains-append_right done (one ∷ c.next.new.self.rest.items) one (Contains-head one c.next.new.self.rest.items)) in
    c.requires one member place (subst (λ (e : Entry g.row.R.Denot ℕ). Contains e.keys place) c.fresh.view_is among)

pub loop-fresh-preserved : goal.loop-fresh-preserved
loop-fresh-preserved g c =
    let done = c.loop-fresh.yielded in
    let one = c.in-Some.fresh in
    let all : done ++ (one ∷ c.next.new.self.rest.items) ≡ c.args.values.items = rw c.in-Some.ensures.steps.0 at c.loop-fresh.invariant.rest in
    let rows = c.args.rows.now in
    let moved : Entry g.row.R.Denot ℕ = record { value = c.fresh.inside.value; keys = c.moved_places-places.result.items; base = c.fresh.inside.standing } in
    let is : moved ≡ at_rows rows one =
    ap (λ ks. record { value = c.fresh.inside.value; keys = ks; base = c.fresh.inside.standing }) c.moved_places-places.ensures ∙ ap (at_rows rows) c.fresh.view_is in
    record {
      done = rw c.in_ok-push.ensures.items ((λ i. c.loop-fresh.invariant.done i ++ is i ∷ []) ∙ sym (map-append (at_rows rows) done (one ∷ [])));
      rest = append_assoc done (one ∷ []) c.next.new.self.rest.items ∙ all;
    }
