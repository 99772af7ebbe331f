use Rattle.std.proofs.Common.{Bor, map, subst}
use Rattle.std.specs.List.Sorted.{IsPermutation}
use Rattle.catalogue_editions.specs.declared.edition.Edition.{Edition}
use Rattle.edition_blocks.proofs.ByKey.{both-ok, kept-from_sorted}
use Rattle.edition_blocks.proofs.by_key.with_key.Goals as goal

pub returns : goal.returns
returns c =
    let numbers = c.with_key.result.now in
    both-ok c.by_least.result _ _ _
    (λ sorted moved up list all is same.
    let order = map (λ (e : Bor Edition). e.now) sorted.items in
    kept-from_sorted c.args.blocks.now.blocks c.args.key.now numbers c.with_key.ensures.members list all is same c.with_key.ensures.ascending order
    (subst (λ found. IsPermutation found order) c.in_ok-found.ensures moved) up)
    c.by_least.ensures.same c.by_least.ensures.ascending
