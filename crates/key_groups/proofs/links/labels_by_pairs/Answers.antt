use Rattle.std.proofs.Common.{◌≡◌, ℕ, get_or, length, ap, sym, ◌∙◌}
use Rattle.std.proofs.lemmas.List.{with_items_is}
use Rattle.std.proofs.lemmas.Result.{IfOk-weaker}
use Rattle.key_groups.specs.Groups.{Follows}
use Rattle.key_groups.specs.Notes.{JoinsPairs}
use Rattle.key_groups.proofs.links.labels_by_pairs.Goals as goal

pub returns-clause-joined : goal.returns-clause-joined
returns-clause-joined c =
    let new = c.link_all.new.links in
    let size : length new ≡ length c.in_ok-links.links.items = c.link_all.auto.links ∙ ap length c.as_mut_slice.ensures.value in
    let is : c.as_slice.result.now ≡ new = c.as_slice.ensures.value ∙ with_items_is c.in_ok-links.links new (size ∙ sym c.in_ok-links.links.ok.0) in
    IfOk-weaker c.firsts_of_groups.result (λ labels. Follows new (λ i. get_or labels.items i 0)) (λ labels. JoinsPairs c.args.pairs.items (λ i. get_or labels.items i 0))
    (λ labels follows. ((c.link_all.ensures.joined (λ i. get_or labels.items i 0)).0 follows).1)
    (rw is at c.firsts_of_groups.ensures.follows)

pub returns-clause-only : goal.returns-clause-only
returns-clause-only c =
    let new = c.link_all.new.links in
    let size : length new ≡ length c.in_ok-links.links.items = c.link_all.auto.links ∙ ap length c.as_mut_slice.ensures.value in
    let is : c.as_slice.result.now ≡ new = c.as_slice.ensures.value ∙ with_items_is c.in_ok-links.links new (size ∙ sym c.in_ok-links.links.ok.0) in
    let joined = rw c.as_mut_slice.ensures.value at c.link_all.ensures.joined in
    IfOk-weaker c.firsts_of_groups.result (λ labels. (label : ℕ → ℕ) → Follows new label → Follows labels.items label)
    (λ labels. (label : ℕ → ℕ) → JoinsPairs c.args.pairs.items label → Follows labels.items label)
    (λ labels only label joins. only label ((joined label).1 (c.in_ok-links.ensures.all label, joins)))
    (rw is at c.firsts_of_groups.ensures.only)
