-- What a list of contents merges to is the merge of what its two parts do.
use Rattle.std.proofs.Common.{◌≡◌, Bor, List, [], ◌∷◌, ◌++◌, refl, sym, ap, ap₂, ◌∙◌}
use Rattle.std.specs.Prelude.{fold}
use Rattle.std.proofs.lemmas.List.{map-append}
use Rattle.std.proofs.lemmas.List.Sums.{fold-append}
use Rattle.field_merge.specs.Merging.{join}
use Rattle.field_merge.specs.MergingLaws.{join_laws}
use Rattle.field_merge.specs.declared.content.Content.{Content}
use Rattle.catalogue_editions.specs.Borrowed.{contents_of}
use Rattle.catalogue_editions.specs.Joined.{joined_all}

-- a content in front is merged at last
in-front : (a b : Content) (behind : List Content) → joined_all (join a b) behind ≡ join a (joined_all b behind)
in-front a b [] = refl
in-front a b (c ∷ behind) = ap (λ x. joined_all x behind) (join_laws.associative a b c) ∙ in-front a (join b c) behind

-- contents of which the first ones merge to x and the others to y
pub joined-both : (first a : Content) (left : List Content) (b : Content) (right whole : List Content) (x y : Content)
    → first ≡ a → whole ≡ left ++ b ∷ right → joined_all a left ≡ x → joined_all b right ≡ y → joined_all first whole ≡ join x y
joined-both first a left b right whole x y same is one other =
    ap₂ joined_all same is ∙ fold-append join a left (b ∷ right) ∙ in-front (joined_all a left) b right ∙ ap₂ join one other

-- a part of a merge that is made of those of its sides: that of all contents is made of theirs, one after the other
pub joined-part : {S : Type 0} (part : Content → S) (both : S → S → S) → ((a b : Content) → part (join a b) ≡ both (part a) (part b))
    → (first : Content) (behind : List Content) → fold (λ s c. both s (part c)) (part first) behind ≡ part (joined_all first behind)
joined-part part both is first [] = refl
joined-part part both is first (c ∷ behind) =
    ap (λ s. fold (λ t d. both t (part d)) s behind) (sym (is first c)) ∙ joined-part part both is (join first c) behind

-- borrowed contents of which some stand in front, then one and then the others
pub halves-of : (behind left : List (Bor Content)) (middle : Bor Content) (rest : List (Bor Content)) {right : List (Bor Content)}
    → behind ≡ left ++ right → right ≡ middle ∷ rest → contents_of behind ≡ contents_of left ++ middle.now ∷ contents_of rest
halves-of behind left middle rest is split =
    ap contents_of (is ∙ ap (λ (cs : List (Bor Content)). left ++ cs) split) ∙ map-append (λ (c : Bor Content). c.now) left (middle ∷ rest)
