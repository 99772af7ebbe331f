use Rattle.std.proofs.Common.{◌≡◌, ◌+◌, [], ◌∷◌, ◌++◌, get_or, sym, ◌∙◌, ap, subst, inl, inr, arith}
use Rattle.std.proofs.lemmas.Bool.{cases_lt}
use Rattle.std.proofs.lemmas.List.{length_push, get_or_append_left, get_or_push}
use Rattle.key_groups.proofs.links.unlinked.Goals as goal

pub loop-place-preserved : goal.loop-place-preserved
loop-place-preserved c =
    let so = c.loop-place.invariant in
    let links = c.loop-place.links.items in
    let n = c.loop-place.place in
    rw c.in_ok-push.ensures.items
    (record {
      size = length_push links n ∙ ap (λ k. k + 1) so.size;
      itself = λ i il. elim (cases_lt i n) [
        | inl before ↦ (let size = so.size in get_or_append_left links (n ∷ []) 0 i (omega (arith, before, size)) ∙ so.itself i before)
        | inr after ↦ (
            let same : i ≡ n = omega (arith, il, after) in
            subst (λ k. get_or (links ++ n ∷ []) k 0 ≡ k) (sym same) (get_or_push links n 0 n so.size))
      ];
    })

pub returns-clause-links : goal.returns-clause-links
returns-clause-links c = λ i il.
    let size = c.loop-place.invariant.size in
    let itself = c.loop-place.invariant.itself i (omega (arith, il, size)) in
    omega (arith, itself)

pub returns-clause-all : goal.returns-clause-all
returns-clause-all c = λ label i il.
    let size = c.loop-place.invariant.size in
    ap label (c.loop-place.invariant.itself i (omega (arith, il, size)))
