-- The members of sorted lists, and the members that two of them have in common.
use Rattle.std.proofs.Common.{◌≡◌, ◌≢◌, suc, ◌<◌, arith, length, get_or, Bool, true, false, ◌||◌, cond, filter, ◌⊎◌, inl, inr, List, [], ◌∷◌, ◌++◌, map, All, AllPairs, Contains, refl, sym, ap, subst, ◌∙◌}
use Rattle.std.specs.declared.cmp.Ordering.{Ordering}
use Rattle.std.specs.declared.cmp.Ordering.TheVariants.{Less, Equal, Greater}
use Rattle.std.specs.Ordering.{is_eq, is_lt, eq_by_cmp}
use Rattle.std.specs.Cmp.{IsTotalOrder, eq_by_cmp_equiv}
use Rattle.std.specs.FinMap.{IsAntisymmetric}
use Rattle.std.specs.List.{list_all, flat_map}
use Rattle.std.proofs.lemmas.List.Folds.{Any-from_list_any, list_any-from_Any}
use Rattle.std.proofs.lemmas.List.Elements.{All-nil, All-cons, All-append, All-contains, All-contains_itself, All-filter, filter_passes, Contains-append_left, Contains-append_right, Contains-append_cases}
use Rattle.std.proofs.lemmas.List.{get_or-map, get_or_default, length-map}
use Rattle.std.proofs.lemmas.List.Kept.{AllPairs-cons}
use Rattle.union_base.specs.Both.{both_true}
use Rattle.union_base.specs.SortedLists.{is_ascending, union, has, have_common}
use Rattle.union_base.proofs.SortedListLaws.{has-union, have_common-union, have_common-itself}
use Rattle.merge_laws.proofs.Places.{Contains-head, Contains-tail, Contains-cases, All-from_members, AllPairs-first, AllPairs-rest}
use Rattle.match_features.specs.Kept.{has_some}

is_tie : (r : Ordering) → is_eq r ≡ true → r ≡ Equal
is_tie Less h = cc
is_tie Equal h = refl
is_tie Greater h = cc

pub or_cases : (a b : Bool) → (a || b) ≡ true → (a ≡ true) ⊎ (b ≡ true)
or_cases true b h = inl refl
or_cases false b h = inr h

pub or_left : (a b : Bool) → a ≡ true → (a || b) ≡ true
or_left a b h = ap (λ t. t || b) h

pub or_right : (a b : Bool) → b ≡ true → (a || b) ≡ true
or_right true b h = refl
or_right false b h = h

module _ {K : Type 0} {R : K → K → Ordering} (o : IsTotalOrder R) (ties : IsAntisymmetric R) where
  pub member-from_has : (xs : List K) (q : K) → has R xs q ≡ true → Contains xs q
  member-from_has xs q h =
      let some = Any-from_list_any (eq_by_cmp R q) xs h in
      let same : q ≡ some.1 = ties q some.1 (is_tie (R q some.1) some.4) in
      subst (Contains xs) (sym same) (some.0, some.2, some.3)

  pub has-from_member : (xs : List K) (q : K) → Contains xs q → has R xs q ≡ true
  has-from_member xs q h = list_any-from_Any (eq_by_cmp R q) xs (h.0, q, h.1, h.2, (eq_by_cmp_equiv o).refl q)

  -- what is common to two lists is a member of both
  pub member-from_common : (xs ys : List K) → have_common R xs ys ≡ true → (q : K) × Contains xs q × Contains ys q
  member-from_common xs ys h =
      let some = Any-from_list_any (has R ys) xs h in
      (some.1, (some.0, some.2, some.3), member-from_has ys some.1 some.4)

  pub common-from_member : (xs ys : List K) (q : K) → Contains xs q → Contains ys q → have_common R xs ys ≡ true
  common-from_member xs ys q h k = list_any-from_Any (has R ys) xs (h.0, q, h.1, h.2, has-from_member ys q k)

  -- the members of a union are those of its two sides
  pub member-from_union : (xs ys : List K) (q : K) → Contains (union R xs ys) q → Contains xs q ⊎ Contains ys q
  member-from_union xs ys q h =
      elim (or_cases (has R xs q) (has R ys q) (sym (has-union o xs ys q) ∙ has-from_member (union R xs ys) q h)) [
        | inl e ↦ inl (member-from_has xs q e)
        | inr e ↦ inr (member-from_has ys q e)
      ]

  pub union-from_member : (xs ys : List K) (q : K) → Contains xs q ⊎ Contains ys q → Contains (union R xs ys) q
  union-from_member xs ys q h =
      member-from_has (union R xs ys) q (has-union o xs ys q ∙ elim h [
        | inl e ↦ or_left (has R xs q) (has R ys q) (has-from_member xs q e)
        | inr e ↦ or_right (has R xs q) (has R ys q) (has-from_member ys q e)
      ])

  -- what is common to two lists stays so in a union
  pub common-kept : (xs ys zs : List K) → have_common R xs ys ≡ true → have_common R xs (union R ys zs) ≡ true
  common-kept xs ys zs h = have_common-union o xs ys zs ∙ or_left (have_common R xs ys) (have_common R xs zs) h

  pub common-itself : (xs : List K) → has_some xs ≡ true → have_common R xs xs ≡ true
  common-itself [] h = h
  common-itself (x ∷ xs) h = have_common-itself o x xs

  -- each member of an ascending list stands there once, also after a change that tells values apart
  module _ {J : Type 0} (f : K → J) (apart : (x y : K) → f x ≡ f y → x ≡ y) where
    above : (x : K) (ys : List K) → list_all (λ y. is_lt (R x y)) ys ≡ true → All (λ j. f x ≢ j) (map f ys)
    above x [] h = All-nil (λ j. f x ≢ j)
    above x (y ∷ ys) h =
        let parts = both_true (is_lt (R x y)) (list_all (λ y. is_lt (R x y)) ys) h in
        All-cons (λ j. f x ≢ j) (f y) (map f ys)
        (λ same. let tie : R x y ≡ Equal = is_tie (R x y) (ap (eq_by_cmp R x) (sym (apart x y same)) ∙ (eq_by_cmp_equiv o).refl x) in
        let clash : false ≡ true = ap is_lt (sym tie) ∙ parts.0 in cc)
        (above x ys parts.1)

    pub once-from_ascending : (xs : List K) → is_ascending R xs ≡ true → AllPairs (λ i j. i ≢ j) (map f xs)
    once-from_ascending [] h = λ i j d lt within. absurd (omega arith)
    once-from_ascending (x ∷ xs) h =
        let parts = both_true (list_all (λ y. is_lt (R x y)) xs) (is_ascending R xs) h in
        AllPairs-cons (λ i j. i ≢ j) (f x) (map f xs) (above x xs parts.0) (once-from_ascending xs parts.1)

-- two lists without repeats that have nothing in common
pub once-append : {J : Type 0} (xs ys : List J) → AllPairs (λ i j. i ≢ j) xs → AllPairs (λ i j. i ≢ j) ys
    → All (λ i. All (λ j. i ≢ j) ys) xs → AllPairs (λ i j. i ≢ j) (xs ++ ys)
once-append [] ys p q r = q
once-append (x ∷ xs) ys p q r =
    AllPairs-cons (λ i j. i ≢ j) x (xs ++ ys)
    (All-append (λ j. x ≢ j) xs ys (λ j d lt. p 0 (suc j) d (omega arith) (omega arith)) (r 0 x (omega arith)))
    (once-append xs ys (λ i j d lt within. p (suc i) (suc j) d (omega arith) (omega arith)) q (λ i d lt. r (suc i) d (omega arith)))

-- no value of one list is one of the other
module _ {A B J : Type 0} (f : A → J) (g : B → J) (apart : (a : A) (b : B) → f a ≢ g b) where
  others : (x : A) (ys : List B) → All (λ j. f x ≢ j) (map g ys)
  others x [] = All-nil (λ j. f x ≢ j)
  others x (y ∷ ys) = All-cons (λ j. f x ≢ j) (g y) (map g ys) (apart x y) (others x ys)

  pub apart_maps : (xs : List A) (ys : List B) → All (λ i. All (λ j. i ≢ j) (map g ys)) (map f xs)
  apart_maps [] ys = All-nil (λ i. All (λ j. i ≢ j) (map g ys))
  apart_maps (x ∷ xs) ys = All-cons (λ i. All (λ j. i ≢ j) (map g ys)) (f x) (map f xs) (others x ys) (apart_maps xs ys)

-- the members of a list that pass a test
module _ {K : Type 0} (p : K → Bool) where
  pub member-filter : (xs : List K) (x : K) → Contains xs x → p x ≡ true → Contains (filter p xs) x
  member-filter [] x (k, lt, e) h = absurd (omega arith)
  member-filter (y ∷ ys) x c h =
      elim (p y) as (λ b. p y ≡ b → Contains (cond b (y ∷ filter p ys) (filter p ys)) x) [
        | true ↦ λ is. elim (Contains-cases y ys x c) [
          | inl same ↦ subst (Contains (y ∷ filter p ys)) same (Contains-head y (filter p ys))
          | inr later ↦ Contains-tail y (filter p ys) x (member-filter ys x later h)
        ]
        | false ↦ λ is. elim (Contains-cases y ys x c) [
          | inl same ↦ absurd (let clash : true ≡ false = sym h ∙ ap p (sym same) ∙ is in cc)
          | inr later ↦ member-filter ys x later h
        ]
      ] refl

  pub member-from_filter : (xs : List K) (x : K) → Contains (filter p xs) x → Contains xs x × (p x ≡ true)
  member-from_filter xs x c = (
    All-contains (Contains xs) (filter p xs) x (All-filter p (Contains xs) xs (All-contains_itself xs)) c,
    All-contains (λ y. p y ≡ true) (filter p xs) x (filter_passes p xs) c,
  )

-- the members of a list whose values are changed one by one
module _ {A J : Type 0} (f : A → J) where
  pub member-map : (xs : List A) (x : A) → Contains xs x → Contains (map f xs) (f x)
  member-map xs x (k, lt, e) = (k, omega (arith, length-map xs f), get_or-map f xs k x (f x) lt ∙ ap f e)

  pub member-from_map : (xs : List A) (j : J) → Contains (map f xs) j → (x : A) × Contains xs x × (f x ≡ j)
  member-from_map [] j (k, lt, e) = absurd (omega arith)
  member-from_map (x ∷ xs) j (k, lt, e) =
      let inside : k < length (x ∷ xs) = omega (arith, length-map (x ∷ xs) f) in
      let y = get_or (x ∷ xs) k x in
      (y, (k, inside, get_or_default (x ∷ xs) k y x inside), sym (get_or-map f (x ∷ xs) k x j inside) ∙ e)

-- the members of the lists that the values of a list give
module _ {A J : Type 0} (f : A → List J) where
  pub member-flat_map : (xs : List A) (x : A) (j : J) → Contains xs x → Contains (f x) j → Contains (flat_map f xs) j
  member-flat_map [] x j (k, lt, e) within = absurd (omega arith)
  member-flat_map (y ∷ ys) x j c within =
      elim (Contains-cases y ys x c) [
        | inl same ↦ Contains-append_left (f y) (flat_map f ys) j (subst (λ z. Contains (f z) j) (sym same) within)
        | inr later ↦ Contains-append_right (f y) (flat_map f ys) j (member-flat_map ys x j later within)
      ]

  pub member-from_flat_map : (xs : List A) (j : J) → Contains (flat_map f xs) j → (x : A) × Contains xs x × Contains (f x) j
  member-from_flat_map [] j (k, lt, e) = absurd (omega arith)
  member-from_flat_map (y ∷ ys) j c =
      elim (Contains-append_cases (f y) (flat_map f ys) j c) [
        | inl here ↦ (y, Contains-head y ys, here)
        | inr later ↦ (let (x, there, within) = member-from_flat_map ys j later in (x, Contains-tail y ys x there, within))
      ]

  -- values that stand once give lists without repeats, where no two values give one thing
  pub once-flat_map : ((x y : A) (j : J) → Contains (f x) j → Contains (f y) j → x ≡ y) → ((x : A) → AllPairs (λ i j. i ≢ j) (f x))
      → (xs : List A) → AllPairs (λ x y. x ≢ y) (map (λ x. x) xs) → AllPairs (λ i j. i ≢ j) (flat_map f xs)
  once-flat_map apart each [] once = λ i j d lt within. absurd (omega arith)
  once-flat_map apart each (y ∷ ys) once =
      let rest = map {B = A} (λ x. x) ys in
      once-append (f y) (flat_map f ys) (each y) (once-flat_map apart each ys (AllPairs-rest (λ (x y : A). x ≢ y) y rest once))
      (All-from_members (λ i. All (λ j. i ≢ j) (flat_map f ys)) (f y) (λ i ci. All-from_members (λ j. i ≢ j) (flat_map f ys) (λ j cj same.
      let (x, there, within) = member-from_flat_map ys j cj in
      AllPairs-first (λ (x y : A). x ≢ y) y rest once x (member-map (λ (x : A). x) ys x there) (apart y x j (subst (Contains (f y)) same ci) within))))
