-- What a binary search finds in a list in ascending order, and what an edit at that place makes of it.
use Rattle.std.proofs.Common.{◌≡◌, ℕ, zero, suc, ◌+◌, ◌<◌, ◌≤◌, Bool, true, false, cond, not, List, [], ◌∷◌, length, get_or, refl, sym, subst, ap, ◌∙◌, arith}
use Rattle.std.specs.Prelude.{filter}
use Rattle.std.specs.declared.cmp.Ordering.{Ordering}
use Rattle.std.specs.declared.cmp.Ordering.TheVariants.{Less, Equal, Greater}
use Rattle.std.specs.Ordering.{is_lt, is_eq, eq_by_cmp, ordering_index, ordering_reverse, match_ordering}
use Rattle.std.specs.Cmp.{IsTotalOrder}
use Rattle.std.specs.FinMap.{IsAntisymmetric}
use Rattle.std.specs.List.{list_all, insert, remove}
use Rattle.std.specs.List.Sorted.{IsNonDecreasingBy}
use Rattle.std.proofs.lemmas.List.Sorted.{searchable_from_sorted}
use Rattle.union_base.specs.Both.{both_true, true_both}
use Rattle.union_base.specs.SortedLists.{is_ascending, put}

lt_is : (r : Ordering) → is_lt r ≡ true → r ≡ Less
lt_is Less h = refl
lt_is Equal h = cc
lt_is Greater h = cc

not_lt-reverse : (r : Ordering) → r ≡ Less → is_lt (ordering_reverse r) ≡ false
not_lt-reverse Less h = refl
not_lt-reverse Equal h = cc
not_lt-reverse Greater h = cc

module _ {K : Type 0} {R : K → K → Ordering} (o : IsTotalOrder R) (ties : IsAntisymmetric R) where
  below_at : (k : K) (xs : List K) (j : ℕ) (d : K) → list_all (λ y. is_lt (R k y)) xs ≡ true → j < length xs → R k (get_or xs j d) ≡ Less
  below_at k [] j d h lt = absurd (omega arith)
  below_at k (x ∷ xs) zero d h lt = lt_is (R k x) (both_true (is_lt (R k x)) (list_all (λ y. is_lt (R k y)) xs) h).0
  below_at k (x ∷ xs) (suc j) d h lt = below_at k xs j d (both_true (is_lt (R k x)) (list_all (λ y. is_lt (R k y)) xs) h).1 (omega arith)

  rising : (xs : List K) → is_ascending R xs ≡ true → (i j : ℕ) (d : K) → i < j → j < length xs → R (get_or xs i d) (get_or xs j d) ≡ Less
  rising [] h i j d lt le = absurd (omega arith)
  rising (x ∷ xs) h i zero d lt le = absurd (omega arith)
  rising (x ∷ xs) h zero (suc j) d lt le = below_at x xs j d (both_true (list_all (λ y. is_lt (R x y)) xs) (is_ascending R xs) h).0 (omega arith)
  rising (x ∷ xs) h (suc i) (suc j) d lt le = rising xs (both_true (list_all (λ y. is_lt (R x y)) xs) (is_ascending R xs) h).1 i j d (omega arith) (omega arith)

  pub comparisons_rise : (xs : List K) → is_ascending R xs ≡ true → (y : K) → IsNonDecreasingBy (λ x. ordering_index (R x y)) xs
  comparisons_rise xs h y = searchable_from_sorted o (λ x. x) xs y
      (λ i d low high. ap is_lt (o.antisymm (get_or xs (i + 1) d) (get_or xs i d)) ∙ not_lt-reverse (R (get_or xs i d) (get_or xs (i + 1) d)) (rising xs h i (i + 1) d (omega arith) high))

  turned : (x y : K) (r : Ordering) → R x y ≡ r → R y x ≡ ordering_reverse r
  turned x y r e = o.antisymm y x ∙ ap ordering_reverse e

  -- what stands in the list is put there for nothing
  pub put_at : (y : K) (xs : List K) (i : ℕ) → is_ascending R xs ≡ true → i < length xs → ((d : K) → R (get_or xs i d) y ≡ Equal) → put R y xs ≡ xs
  put_at y [] i h lt e = absurd (omega arith)
  put_at y (x ∷ xs) zero h lt e = ap (λ r. match_ordering r (y ∷ x ∷ xs) (x ∷ xs) (x ∷ put R y xs)) (turned x y Equal (e x))
  put_at y (x ∷ xs) (suc i) h lt e =
      let parts = both_true (list_all (λ z. is_lt (R x z)) xs) (is_ascending R xs) h in
      let below : R x y ≡ Less = subst (λ z. R x z ≡ Less) (ties (get_or xs i x) y (e x)) (below_at x xs i x parts.0 (omega arith)) in
      ap (λ r. match_ordering r (y ∷ x ∷ xs) (x ∷ xs) (x ∷ put R y xs)) (turned x y Less below) ∙ ap (λ rest. x ∷ rest) (put_at y xs i parts.1 (omega arith) e)

  -- a value put into its gap
  pub put_in_gap : (y : K) (xs : List K) (i : ℕ) → i ≤ length xs → ((j : ℕ) (d : K) → j < i → R (get_or xs j d) y ≡ Less) → ((j : ℕ) (d : K) → i ≤ j → j < length xs → R (get_or xs j d) y ≡ Greater)
      → insert xs i y ≡ put R y xs
  put_in_gap y [] zero le low high = refl
  put_in_gap y [] (suc i) le low high = absurd (omega arith)
  put_in_gap y (x ∷ xs) zero le low high = sym (ap (λ r. match_ordering r (y ∷ x ∷ xs) (x ∷ xs) (x ∷ put R y xs)) (turned x y Greater (high 0 x (omega arith) (omega arith))))
  put_in_gap y (x ∷ xs) (suc i) le low high =
      ap (λ rest. x ∷ rest) (put_in_gap y xs i (omega arith) (λ j d lt. low (suc j) d (omega arith)) (λ j d ge lt. high (suc j) d (omega arith) (omega arith)))
      ∙ sym (ap (λ r. match_ordering r (y ∷ x ∷ xs) (x ∷ xs) (x ∷ put R y xs)) (turned x y Less (low 0 x (omega arith))))

  -- the values but one
  abbrev pub but : K → List K → List K
  but y xs = filter (λ x. not (eq_by_cmp R y x)) xs

  but_above : (y k : K) (xs : List K) → R k y ≡ Equal → list_all (λ z. is_lt (R k z)) xs ≡ true → but y xs ≡ xs
  but_above y k [] e h = refl
  but_above y k (x ∷ xs) e h =
      let parts = both_true (is_lt (R k x)) (list_all (λ z. is_lt (R k z)) xs) h in
      let apart : eq_by_cmp R y x ≡ false = ap is_eq (ap (λ z. R z x) (sym (ties k y e)) ∙ lt_is (R k x) parts.0) in
      ap (λ b. cond (not b) (x ∷ but y xs) (but y xs)) apart ∙ ap (λ rest. x ∷ rest) (but_above y k xs e parts.1)

  -- a value taken away at its place
  pub remove_at : (y : K) (xs : List K) (i : ℕ) → is_ascending R xs ≡ true → i < length xs → ((d : K) → R (get_or xs i d) y ≡ Equal) → remove xs i ≡ but y xs
  remove_at y [] i h lt e = absurd (omega arith)
  remove_at y (x ∷ xs) zero h lt e =
      let parts = both_true (list_all (λ z. is_lt (R x z)) xs) (is_ascending R xs) h in
      sym (ap (λ b. cond (not b) (x ∷ but y xs) (but y xs)) (ap is_eq (turned x y Equal (e x))) ∙ but_above y x xs (e x) parts.0)
  remove_at y (x ∷ xs) (suc i) h lt e =
      let parts = both_true (list_all (λ z. is_lt (R x z)) xs) (is_ascending R xs) h in
      let below : R x y ≡ Less = subst (λ z. R x z ≡ Less) (ties (get_or xs i x) y (e x)) (below_at x xs i x parts.0 (omega arith)) in
      ap (λ rest. x ∷ rest) (remove_at y xs i parts.1 (omega arith) e) ∙ sym (ap (λ b. cond (not b) (x ∷ but y xs) (but y xs)) (ap is_eq (turned x y Less below)))

  -- what has a gap is not there to be taken away
  pub but_gap : (y : K) (xs : List K) (i : ℕ) → ((j : ℕ) (d : K) → j < i → R (get_or xs j d) y ≡ Less) → ((j : ℕ) (d : K) → i ≤ j → j < length xs → R (get_or xs j d) y ≡ Greater) → xs ≡ but y xs
  but_gap y [] i low high = refl
  but_gap y (x ∷ xs) zero low high =
      ap (λ rest. x ∷ rest) (but_gap y xs zero (λ j d lt. absurd (omega arith)) (λ j d ge lt. high (suc j) d (omega arith) (omega arith)))
      ∙ sym (ap (λ b. cond (not b) (x ∷ but y xs) (but y xs)) (ap is_eq (turned x y Greater (high 0 x (omega arith) (omega arith)))))
  but_gap y (x ∷ xs) (suc i) low high =
      ap (λ rest. x ∷ rest) (but_gap y xs i (λ j d lt. low (suc j) d (omega arith)) (λ j d ge lt. high (suc j) d (omega arith) (omega arith)))
      ∙ sym (ap (λ b. cond (not b) (x ∷ but y xs) (but y xs)) (ap is_eq (turned x y Less (low 0 x (omega arith)))))

  -- fewer values ascend too
  below-filter : (p : K → Bool) (k : K) (xs : List K) → list_all (λ z. is_lt (R k z)) xs ≡ true → list_all (λ z. is_lt (R k z)) (filter p xs) ≡ true
  below-filter p k [] h = refl
  below-filter p k (x ∷ xs) h =
      let parts = both_true (is_lt (R k x)) (list_all (λ z. is_lt (R k z)) xs) h in
      elim (p x) as (λ b. list_all (λ z. is_lt (R k z)) (cond b (x ∷ filter p xs) (filter p xs)) ≡ true) [
        | true ↦ true_both (is_lt (R k x)) _ parts.0 (below-filter p k xs parts.1)
        | false ↦ below-filter p k xs parts.1
      ]

  pub is_ascending-filter : (p : K → Bool) (xs : List K) → is_ascending R xs ≡ true → is_ascending R (filter p xs) ≡ true
  is_ascending-filter p [] h = refl
  is_ascending-filter p (x ∷ xs) h =
      let parts = both_true (list_all (λ z. is_lt (R x z)) xs) (is_ascending R xs) h in
      elim (p x) as (λ b. is_ascending R (cond b (x ∷ filter p xs) (filter p xs)) ≡ true) [
        | true ↦ true_both (list_all (λ z. is_lt (R x z)) (filter p xs)) _ (below-filter p x xs parts.0) (is_ascending-filter p xs parts.1)
        | false ↦ is_ascending-filter p xs parts.1
      ]
