use Rattle.std.proofs.Common.{◌≡◌, ℕ, ◌++◌, ◌∷◌, [], None, sym, ◌∙◌, ap}
use Rattle.std.proofs.lemmas.List.{map-append}
use Rattle.swoosh_resolver.specs.Tables.{Entry}
use Rattle.swoosh_resolver.specs.Changes.{whole_at}
use Rattle.swoosh_resolver.proofs.install.whole_all.Goals as goal

pub loop-fresh-preserved : goal.loop-fresh-preserved
loop-fresh-preserved g c =
    let done = c.loop-fresh.yielded in
    let one = c.in-Some.fresh in
    let blocks = c.args.blocks.now in
    let whole : Entry g.row.R.Denot ℕ = record { value = c.fresh.inside.value; keys = c.in_ok-places.places.items; base = None } in
    let is : whole ≡ whole_at blocks one =
    ap (λ ks. record { value = c.fresh.inside.value; keys = ks; base = None }) c.in_ok-places.ensures ∙ ap (whole_at blocks) c.fresh.view_is in
    rw c.in_ok-push.ensures.items ((λ i. c.loop-fresh.invariant i ++ is i ∷ []) ∙ sym (map-append (whole_at blocks) done (one ∷ [])))
