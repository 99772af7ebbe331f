use Rattle.std.proofs.Common.{nat_eq, ◌≡◌, ℕ, ◌||◌, List, [], ◌∷◌, refl, ap, ◌∙◌}
use Rattle.std.specs.declared.cmp.Ordering.TheVariants.{Less, Equal, Greater}
use Rattle.std.specs.Ordering.{is_eq, eq_by_cmp, ordering_reverse}
use Rattle.std.specs.Cmp.Lexicographic.{pointwise, nat_list_cmp_total, texts_ties}
use Rattle.std.specs.List.{list_any}
use Rattle.union_base.specs.SortedLists.{has}
use Rattle.match_features.specs.Kept.{texts_cmp}
use Rattle.match_features.proofs.meeting.stands_in.Goals as goal

-- the order ties two texts in either order
tied-swap : (a b : List ℕ) → eq_by_cmp texts_cmp a b ≡ eq_by_cmp texts_cmp b a
tied-swap a b =
    ap is_eq (nat_list_cmp_total.antisymm a b)
    ∙ elim (texts_cmp b a) as (λ r. is_eq (ordering_reverse r) ≡ is_eq r) [ Less ↦ refl | Equal ↦ refl | Greater ↦ refl ]

-- the search for an equal text is the search by the order
found-has : (text : List ℕ) (texts : List (List ℕ)) → list_any (λ y. pointwise nat_eq y text) texts ≡ has texts_cmp texts text
found-has text [] = refl
found-has text (x ∷ xs) =
    let first = texts_ties x text ∙ tied-swap x text in
    let rest = found-has text xs in
    λ i. first i || rest i

pub returns : goal.returns
returns c = c.contains.ensures.value ∙ found-has c.args.kind.now c.args.types.now
