-- A merge of editions is linked where both its sides are, and so is the edition of one record.
use Rattle.std.proofs.Common.{◌≡◌, ℕ, true, IsTrue, List, [], ◌∷◌, refl, ◌∙◌}
use Rattle.std.specs.Ordering.{eq_by_cmp}
use Rattle.std.specs.Cmp.{eq_by_cmp_equiv}
use Rattle.union_base.specs.SortedLists.{union, set_of, has}
use Rattle.union_base.specs.Both.{true_both}
use Rattle.union_base.proofs.SortedListLaws.{has-union}
use Rattle.union_base.specs.declared.record_id.RecordId.{RecordId}
use Rattle.match_features.specs.Kept.{pairs_cmp}
use Rattle.match_features.specs.KeptLaws.{pairs_total}
use Rattle.match_features.proofs.MemberLaws.{or_left, or_right}
use Rattle.union_base.specs.RecordIds.{id_cmp}
use Rattle.catalogue_editions.specs.Linked.{own_pair, are_linked}
use Rattle.catalogue_editions.specs.ListLaws.{all-union, all-weaker}

-- what is linked to some pairs is linked to more
linked-left : (c d : List (List ℕ × List ℕ)) (ids : List RecordId) → are_linked ids c ≡ true → are_linked ids (union pairs_cmp c d) ≡ true
linked-left c d =
    all-weaker (λ id. has pairs_cmp c (own_pair id)) (λ id. has pairs_cmp (union pairs_cmp c d) (own_pair id))
    (λ id h. has-union pairs_total c d (own_pair id) ∙ or_left _ (has pairs_cmp d (own_pair id)) h)

linked-right : (c d : List (List ℕ × List ℕ)) (ids : List RecordId) → are_linked ids d ≡ true → are_linked ids (union pairs_cmp c d) ≡ true
linked-right c d =
    all-weaker (λ id. has pairs_cmp d (own_pair id)) (λ id. has pairs_cmp (union pairs_cmp c d) (own_pair id))
    (λ id h. has-union pairs_total c d (own_pair id) ∙ or_right (has pairs_cmp c (own_pair id)) _ h)

-- where each contributor's own pair is among the control pairs, on both sides, it is among their unions
pub linked-union : (a b : List RecordId) (c d : List (List ℕ × List ℕ)) → IsTrue (are_linked a c) → IsTrue (are_linked b d)
    → IsTrue (are_linked (union id_cmp a b) (union pairs_cmp c d))
linked-union a b c d left right =
    all-union id_cmp (λ id. has pairs_cmp (union pairs_cmp c d) (own_pair id)) a b (linked-left c d a left) (linked-right c d b right)

-- one contributor, whose own pair is the first of the pairs
pub linked-one : (id : RecordId) (pairs : List (List ℕ × List ℕ)) → IsTrue (are_linked (id ∷ []) (set_of pairs_cmp (own_pair id ∷ pairs)))
linked-one id pairs =
    true_both (has pairs_cmp (set_of pairs_cmp (own_pair id ∷ pairs)) (own_pair id)) true
    (has-union pairs_total [] (own_pair id ∷ pairs) (own_pair id)
    ∙ or_left (eq_by_cmp pairs_cmp (own_pair id) (own_pair id)) (has pairs_cmp pairs (own_pair id)) ((eq_by_cmp_equiv pairs_total).refl (own_pair id)))
    refl
