use Rattle.std.proofs.Common.{◌≤◌, ◌+◌, get_or, sym, ◌∙◌, ap, arith}
use Rattle.std.proofs.lemmas.List.{length_push, get_or_default, get_or_past}
use Rattle.key_groups.proofs.Linking.{IsLabel, labels_more, labels_earlier, labels_own}
use Rattle.key_groups.proofs.links.firsts_of_groups.Goals.{then-link-place, else-link-place}
use Rattle.key_groups.proofs.links.firsts_of_groups.Goals as goal

pub loop-place-preserved : goal.loop-place-preserved
loop-place-preserved c =
    let so = c.loop-place.invariant in
    let links = c.args.links.now in
    let labels = c.loop-place.labels.items in
    let n = c.loop-place.place in
    let link = get_or links n 0 in
    let label = c.if-link-place.label in
    let earlier : link ≤ n = c.requires n c.loop-place-test.true in
    let size = so.size in
    let next : IsLabel links labels n label = record {
      sized = size;
      earlier = earlier;
      is = elim c.if-link-place.branch [
        | then-link-place w ↦ (let same = w.if-link-place.true in w.label-is ∙ sym (get_or_past labels link n (omega (arith, same, size))))
        | else-link-place w ↦ (let other = w.if-link-place.false in w.label-is ∙ w.index.ensures ∙ get_or_default labels link w.index.result.now n (omega (arith, other, earlier, size)))
      ];
    } in
    rw c.in_ok-push.ensures.items
    (record {
      size = length_push labels label ∙ ap (λ k. k + 1) size;
      earlier = labels_earlier links labels n label next so.earlier;
      follows = labels_more links labels n label next (λ i il. c.requires i (let test = c.loop-place-test.true in omega (arith, il, test))) so.follows;
      only = λ f follows. labels_own links labels n label f next c.loop-place-test.true follows (so.only f follows);
    })

pub returns-clause-only : goal.returns-clause-only
returns-clause-only c = λ label follows i il.
    let size = c.loop-place.invariant.size in
    c.loop-place.invariant.only label follows i (omega (arith, il, size))
