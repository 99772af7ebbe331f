-- Unions keep what the lists of a content keep, and so do the lists of one record.
use Rattle.std.proofs.Common.{◌≡◌, ℕ, suc, arith, true, ◌&&◌, IsTrue, List, [], ◌∷◌, length, refl}
use Rattle.std.specs.Prelude.{nat_le}
use Rattle.std.specs.declared.cmp.Ordering.{Ordering}
use Rattle.std.specs.declared.cmp.Ordering.TheVariants.{Less, Equal, Greater}
use Rattle.std.specs.Ordering.{match_ordering}
use Rattle.std.specs.Cmp.{IsTotalOrder}
use Rattle.std.specs.Cmp.Rules.{comparing}
use Rattle.std.proofs.lemmas.Bool.Decides.{nat_tests}
use Rattle.std.proofs.Common.{rules}
use Rattle.union_base.specs.Both.{both_true, true_both}
use Rattle.union_base.specs.SortedLists.{is_ascending, put, union, set_of}
use Rattle.union_base.specs.FieldOrder.{field_cmp}
use Rattle.union_base.proofs.SortedListLaws.{is_ascending-union}
use Rattle.union_base.specs.declared.record_id.RecordId.{RecordId}
use Rattle.union_base.specs.declared.field.Field.{Field}
use Rattle.field_merge.specs.Kept.{are_kept}
use Rattle.union_base.specs.RecordIds.{id_cmp}

-- ids are in a total order
pub id_total : IsTotalOrder id_cmp
id_total = search (comparing, rules)

-- fields are in a total order
pub field_total : IsTotalOrder field_cmp
field_total = search (comparing, rules)

one_at_least : (n : ℕ) → nat_le 1 (suc n) ≡ true
one_at_least n = grind (arith, nat_tests)

module _ {K : Type 0} (R : K → K → Ordering) where
  some-put : (y : K) (xs : List K) → nat_le 1 (length (put R y xs)) ≡ true
  some-put y [] = refl
  some-put y (x ∷ xs) =
      elim (R y x) as (λ r. nat_le 1 (length (match_ordering r (y ∷ x ∷ xs) (x ∷ xs) (x ∷ put R y xs))) ≡ true) [
        | Less ↦ one_at_least (length (x ∷ xs))
        | Equal ↦ one_at_least (length xs)
        | Greater ↦ one_at_least (length (put R y xs))
      ]

  -- a union with a list that is not empty is not empty
  some-union : (xs ys : List K) → nat_le 1 (length xs) ≡ true → nat_le 1 (length (union R xs ys)) ≡ true
  some-union xs [] h = h
  some-union xs (y ∷ ys) h = some-put y (union R xs ys)

-- where the lists of two contents ascend and have a contributor, so do their unions
pub kept-union : (a b : List RecordId) (c d : List Field) → IsTrue (are_kept a c) → IsTrue (are_kept b d)
    → IsTrue (are_kept (union id_cmp a b) (union field_cmp c d))
kept-union a b c d left right =
    let some = both_true (nat_le 1 (length a)) (is_ascending id_cmp a && is_ascending field_cmp c) left in
    let lists = both_true (is_ascending id_cmp a) (is_ascending field_cmp c) some.1 in
    true_both (nat_le 1 (length (union id_cmp a b))) (is_ascending id_cmp (union id_cmp a b) && is_ascending field_cmp (union field_cmp c d))
    (some-union id_cmp a b some.0)
    (true_both (is_ascending id_cmp (union id_cmp a b)) (is_ascending field_cmp (union field_cmp c d)) (is_ascending-union id_total a b lists.0)
    (is_ascending-union field_total c d lists.1))

-- one contributor, and the set of some fields
pub kept-one : (id : RecordId) (fields : List Field) → IsTrue (are_kept (id ∷ []) (set_of field_cmp fields))
kept-one id fields =
    true_both true (is_ascending field_cmp (set_of field_cmp fields)) refl (is_ascending-union field_total [] fields refl)
