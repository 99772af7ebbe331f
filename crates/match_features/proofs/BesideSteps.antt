-- A walk along two ascending lists, side by side: what the one has beside the other, and whether it has each value of it.
use Rattle.std.proofs.Common.{◌≡◌, Bool, true, false, cond, not, ◌&&◌, ◌||◌, List, [], ◌∷◌, ◌++◌, append_assoc, refl, sym, ap, ◌∙◌}
use Rattle.std.specs.declared.cmp.Ordering.{Ordering}
use Rattle.std.specs.declared.cmp.Ordering.TheVariants.{Less, Equal, Greater}
use Rattle.std.specs.Ordering.{is_lt, is_eq, ordering_reverse}
use Rattle.std.specs.Cmp.{IsTotalOrder}
use Rattle.std.specs.FinMap.{IsAntisymmetric}
use Rattle.std.specs.List.{list_all}
use Rattle.union_base.specs.Both.{both_true, true_both}
use Rattle.union_base.specs.SortedLists.{is_ascending, has}
use Rattle.match_features.specs.Posted.{has_each}
use Rattle.match_features.specs.KeyLists.{beside}

lt_is : (r : Ordering) → is_lt r ≡ true → r ≡ Less
lt_is Less h = refl
lt_is Equal h = cc
lt_is Greater h = cc

module _ {K : Type 0} {R : K → K → Ordering} (o : IsTotalOrder R) where
  abbrev below : K → List K → Bool
  below x ys = list_all (λ y. is_lt (R x y)) ys

  reversed : (x y : K) → R x y ≡ Less → R y x ≡ Greater
  reversed x y e = o.antisymm y x ∙ ap ordering_reverse e

  -- what is below the first value of an ascending list is below all of it
  below_more : (x y : K) (ys : List K) → R x y ≡ Less → below y ys ≡ true → below x ys ≡ true
  below_more x y [] e h = refl
  below_more x y (z ∷ zs) e h =
      let parts = both_true (is_lt (R y z)) (below y zs) h in
      true_both (is_lt (R x z)) (below x zs) (ap is_lt (o.trans x y z e (lt_is (R y z) parts.0))) (below_more x y zs e parts.1)

  -- what is below all of a list is not in it
  absent : (x : K) (ys : List K) → below x ys ≡ true → has R ys x ≡ false
  absent x [] h = refl
  absent x (y ∷ ys) h =
      let parts = both_true (is_lt (R x y)) (below x ys) h in
      ap (λ r. is_eq r || has R ys x) (lt_is (R x y) parts.0) ∙ absent x ys parts.1

  -- a value below all of a list takes none of it away
  beside-passed : (y : K) (xs ys : List K) → below y xs ≡ true → beside R xs (y ∷ ys) ≡ beside R xs ys
  beside-passed y [] ys h = refl
  beside-passed y (x ∷ xs) ys h =
      let parts = both_true (is_lt (R y x)) (below y xs) h in
      let other : has R (y ∷ ys) x ≡ has R ys x = ap (λ r. is_eq r || has R ys x) (reversed y x (lt_is (R y x) parts.0)) in
      λ i. cond (not (other i)) (x ∷ beside-passed y xs ys parts.1 i) (beside-passed y xs ys parts.1 i)

  -- nor is it any of it
  has_each-passed : (x : K) (xs ys : List K) → below x ys ≡ true → has_each R (x ∷ xs) ys ≡ has_each R xs ys
  has_each-passed x xs [] h = refl
  has_each-passed x xs (y ∷ ys) h =
      let parts = both_true (is_lt (R x y)) (below x ys) h in
      let other : has R (x ∷ xs) y ≡ has R xs y = ap (λ r. is_eq r || has R xs y) (reversed x y (lt_is (R x y) parts.0)) in
      λ i. other i && has_each-passed x xs ys parts.1 i

  beside-nothing : (xs : List K) → beside R xs [] ≡ xs
  beside-nothing [] = refl
  beside-nothing (x ∷ xs) = ap (λ zs. x ∷ zs) (beside-nothing xs)

  -- the end of the walk: one list is empty
  module _ (left right : List K) where
    pub beside-left_ended : left ≡ [] → left ≡ beside R left right
    beside-left_ended e = e ∙ ap (λ zs. beside R zs right) (sym e)

    pub beside-right_ended : right ≡ [] → left ≡ beside R left right
    beside-right_ended e = sym (beside-nothing left) ∙ ap (beside R left) (sym e)

  -- a step of the walk
  module _ (ties : IsAntisymmetric R) (x y : K) (xs ys left right : List K) (l : left ≡ x ∷ xs) (r : right ≡ y ∷ ys)
      (a : is_ascending R left ≡ true) (b : is_ascending R right ≡ true) where
    lefts : (below x xs ≡ true) × (is_ascending R xs ≡ true)
    lefts = both_true (below x xs) (is_ascending R xs) (ap (is_ascending R) (sym l) ∙ a)

    rights : (below y ys ≡ true) × (is_ascending R ys ≡ true)
    rights = both_true (below y ys) (is_ascending R ys) (ap (is_ascending R) (sym r) ∙ b)

    pub left_rest : is_ascending R xs ≡ true
    left_rest = lefts.1

    pub right_rest : is_ascending R ys ≡ true
    right_rest = rights.1

    under : R x y ≡ Less → below x (y ∷ ys) ≡ true
    under e = true_both (is_lt (R x y)) (below x ys) (ap is_lt e) (below_more x y ys e rights.0)

    over : R x y ≡ Greater → below y (x ∷ xs) ≡ true
    over e =
        let back : R y x ≡ Less = o.antisymm y x ∙ ap ordering_reverse e in
        true_both (is_lt (R y x)) (below y xs) (ap is_lt back) (below_more y x xs back lefts.0)

    beside-less : R x y ≡ Less → beside R left right ≡ x ∷ beside R xs right
    beside-less e =
        let none : has R right x ≡ false = ap (λ zs. has R zs x) r ∙ absent x (y ∷ ys) (under e) in
        ap (λ zs. beside R zs right) l ∙ (λ i. cond (not (none i)) (x ∷ beside R xs right) (beside R xs right))

    -- the values so far, and what is left beside what is left of the other
    module _ (done whole : List K) (all : done ++ beside R left right ≡ whole) where
      pub found_less : Less ≡ R x y → (done ++ x ∷ []) ++ beside R xs right ≡ whole
      found_less e = append_assoc done (x ∷ []) (beside R xs right) ∙ ap (λ zs. done ++ zs) (sym (beside-less (sym e))) ∙ all

      pub found_equal : Equal ≡ R x y → done ++ beside R xs ys ≡ whole
      found_equal e =
          let there : has R (y ∷ ys) x ≡ true = ap (λ r. is_eq r || has R ys x) (sym e) in
          let later : below y xs ≡ true = ap (λ z. below z xs) (sym (ties x y (sym e))) ∙ lefts.0 in
          let step : beside R left right ≡ beside R xs ys =
          (λ i. beside R (l i) (r i)) ∙ (λ i. cond (not (there i)) (x ∷ beside R xs (y ∷ ys)) (beside R xs (y ∷ ys))) ∙ beside-passed y xs ys later in
          ap (λ zs. done ++ zs) (sym step) ∙ all

      pub found_greater : Greater ≡ R x y → done ++ beside R left ys ≡ whole
      found_greater e =
          let step : beside R left right ≡ beside R left ys =
          (λ i. beside R (l i) (r i)) ∙ beside-passed y (x ∷ xs) ys (over (sym e)) ∙ ap (λ zs. beside R zs ys) (sym l) in
          ap (λ zs. done ++ zs) (sym step) ∙ all

    pub each_less : Less ≡ R x y → has_each R xs right ≡ has_each R left right
    each_less e = sym ((λ i. has_each R (l i) (r i)) ∙ has_each-passed x xs (y ∷ ys) (under (sym e)) ∙ ap (has_each R xs) (sym r))

    pub each_equal : Equal ≡ R x y → has_each R xs ys ≡ has_each R left right
    each_equal e =
        let back : R y x ≡ Equal = o.antisymm y x ∙ ap ordering_reverse (sym e) in
        let there : has R (x ∷ xs) y ≡ true = ap (λ r. is_eq r || has R xs y) back in
        let later : below x ys ≡ true = ap (λ z. below z ys) (ties x y (sym e)) ∙ rights.0 in
        sym ((λ i. has_each R (l i) (r i)) ∙ (λ i. there i && has_each R (x ∷ xs) ys) ∙ has_each-passed x xs ys later)

    pub each_greater : Greater ≡ R x y → false ≡ has_each R left right
    each_greater e = sym ((λ i. has_each R (l i) (r i)) ∙ ap (λ t. t && has_each R (x ∷ xs) ys) (absent y (x ∷ xs) (over (sym e))))
