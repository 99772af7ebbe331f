-- What holds of the values of two lists holds of the values of their union, and of the greater of two values.
use Rattle.std.proofs.Common.{◌≡◌, Bool, true, List, [], ◌∷◌}
use Rattle.std.specs.declared.cmp.Ordering.{Ordering}
use Rattle.std.specs.declared.cmp.Ordering.TheVariants.{Less, Equal, Greater}
use Rattle.std.specs.Ordering.{match_ordering}
use Rattle.std.specs.List.{list_all}
use Rattle.union_base.specs.Both.{both_true, true_both}
use Rattle.union_base.specs.SortedLists.{put, union}
use Rattle.field_merge.specs.Merging.{greater}

module _ {K : Type 0} (R : K → K → Ordering) (p : K → Bool) where
  all-put : (y : K) (xs : List K) → p y ≡ true → list_all p xs ≡ true → list_all p (put R y xs) ≡ true
  all-put y [] one all = true_both (p y) true one all
  all-put y (x ∷ xs) one all =
      let parts = both_true (p x) (list_all p xs) all in
      elim (R y x) as (λ r. list_all p (match_ordering r (y ∷ x ∷ xs) (x ∷ xs) (x ∷ put R y xs)) ≡ true) [
        | Less ↦ true_both (p y) (list_all p (x ∷ xs)) one all
        | Equal ↦ all
        | Greater ↦ true_both (p x) (list_all p (put R y xs)) parts.0 (all-put y xs one parts.1)
      ]

  -- what holds of all members of two lists holds of all members of their union
  pub all-union : (xs ys : List K) → list_all p xs ≡ true → list_all p ys ≡ true → list_all p (union R xs ys) ≡ true
  all-union xs [] a b = a
  all-union xs (y ∷ ys) a b =
      let parts = both_true (p y) (list_all p ys) b in
      all-put y (union R xs ys) parts.0 (all-union xs ys a parts.1)

  -- what holds of two values holds of the greater one
  pub one-greater : (x y : K) → p x ≡ true → p y ≡ true → p (greater R x y) ≡ true
  one-greater x y a b = elim (R x y) as (λ r. p (match_ordering r y x x) ≡ true) [ Less ↦ b | Equal ↦ a | Greater ↦ a ]

-- what follows from one test follows for each value of a list
pub all-weaker : {K : Type 0} (p q : K → Bool) → ((x : K) → p x ≡ true → q x ≡ true) → (xs : List K) → list_all p xs ≡ true → list_all q xs ≡ true
all-weaker p q more [] all = all
all-weaker p q more (x ∷ xs) all =
    let parts = both_true (p x) (list_all p xs) all in
    true_both (q x) (list_all q xs) (more x parts.0) (all-weaker p q more xs parts.1)
