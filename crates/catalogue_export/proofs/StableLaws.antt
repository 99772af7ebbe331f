-- A list has one order in which nothing is less than what stands before it and what ties keeps its order.
use Rattle.std.proofs.Common.{◌≡◌, ℕ, suc, ◌+◌, ◌<◌, Bool, true, false, not, ◌&&◌, List, [], ◌∷◌, length, get_or, refl, sym, ◌∙◌, ap, arith, cond}
use Rattle.std.specs.Prelude.{if◌then◌else◌, filter}
use Rattle.std.specs.List.Sorted.{IsSortedBy, IsStableBy, ties}
use Rattle.std.specs.Cmp.{IsStrictWeakOrder}
use Rattle.std.proofs.lemmas.List.Sorted.{sorted_far}

module _ {X : Type 0} (lt : X → X → Bool) where
  -- nothing in the list is less than the value
  abbrev pub Floor : X → List X → Type 0
  Floor x [] = Unit {0}
  Floor x (y ∷ ys) = (lt y x ≡ false) × Floor x ys

  -- nothing is less than what stands before it
  abbrev pub Rising : List X → Type 0
  Rising [] = Unit {0}
  Rising (x ∷ xs) = Floor x xs × Rising xs

  -- a value put before the first one that is no less
  abbrev pub put_before : X → List X → List X
  put_before x [] = x ∷ []
  put_before x (y ∷ ys) = (if lt y x then y ∷ put_before x ys else x ∷ y ∷ ys)

  abbrev pub in_order : List X → List X
  in_order [] = []
  in_order (x ∷ xs) = put_before x (in_order xs)

  Floor-from_places : (x : X) (ys : List X) → ((k : ℕ) → k < length ys → lt (get_or ys k x) x ≡ false) → Floor x ys
  Floor-from_places x [] each = tt
  Floor-from_places x (y ∷ ys) each = (each 0 (omega arith), Floor-from_places x ys (λ k below. each (suc k) (omega arith)))

  module _ (order : IsStrictWeakOrder lt) where
    Rising-from_sorted : (xs : List X) → IsSortedBy lt xs → Rising xs
    Rising-from_sorted [] sorted = tt
    Rising-from_sorted (x ∷ xs) sorted = (
      Floor-from_places x xs (λ k below. sorted_far lt order (x ∷ xs) sorted 0 (suc k) x (omega arith) (omega arith)),
      Rising-from_sorted xs (λ k d low below.
          let later : suc (k + 1) ≡ suc k + 1 = omega arith in
          ap (λ n. lt (get_or (x ∷ xs) n d) (get_or xs k d)) later ∙ sorted (suc k) d (omega arith) (omega arith)),
    )

    -- what is less than nothing in a list is less than nothing above it
    pub Floor-lower : (x y : X) (ys : List X) → lt y x ≡ false → Floor y ys → Floor x ys
    Floor-lower x y [] e floor = tt
    Floor-lower x y (z ∷ zs) e floor = (order.chain z y x floor.0 e, Floor-lower x y zs e floor.1)

    Floor-put : (x y : X) (ys : List X) → lt x y ≡ false → Floor y ys → Floor y (put_before x ys)
    Floor-put x y [] e floor = (e, tt)
    Floor-put x y (z ∷ zs) e floor =
        elim (lt z x) as (λ r. Floor y (if r then z ∷ put_before x zs else x ∷ z ∷ zs)) [
          | true ↦ (floor.0, Floor-put x y zs e floor.1)
          | false ↦ (e, floor)
        ]

    Rising-put : (x : X) (ys : List X) → Rising ys → Rising (put_before x ys)
    Rising-put x [] rising = (tt, tt)
    Rising-put x (y ∷ ys) rising =
        elim (lt y x) as (λ r. lt y x ≡ r → Rising (if r then y ∷ put_before x ys else x ∷ y ∷ ys)) [
          | true ↦ λ e. (Floor-put x y ys (order.one_way y x e) rising.0, Rising-put x ys rising.1)
          | false ↦ λ e. ((e, Floor-lower x y ys e rising.0), rising)
        ] refl

    pub Rising-in_order : (xs : List X) → Rising (in_order xs)
    Rising-in_order [] = tt
    Rising-in_order (x ∷ xs) = Rising-put x (in_order xs) (Rising-in_order xs)

    ties_low : (x y : X) → ties lt x y ≡ true → lt x y ≡ false
    ties_low x y h =
        elim (lt x y) as (λ r. (not r && not (lt y x)) ≡ true → r ≡ false) [
          | true ↦ λ g. cc
          | false ↦ λ g. refl
        ] h

    ties_high : (x y : X) → ties lt x y ≡ true → lt y x ≡ false
    ties_high x y h =
        elim (lt x y) as (λ r. (not r && not (lt y x)) ≡ true → lt y x ≡ false) [
          | true ↦ λ g. cc
          | false ↦ λ g. elim (lt y x) as (λ r. not r ≡ true → r ≡ false) [
            | true ↦ λ q. cc
            | false ↦ λ q. refl
          ] g
        ] h

    -- of two values of which one is less than the other, not both tie with a third
    apart : (x y z : X) → lt y x ≡ true → ties lt z x ≡ true → ties lt z y ≡ true → ⊥
    apart x y z less one other =
        let no : lt y x ≡ false = order.chain y z x (ties_high z y other) (ties_low z x one) in
        let clash : true ≡ false = sym less ∙ no in cc

    swapped : (p : X → Bool) (x y : X) (rest : List X) → (p x ≡ true → p y ≡ true → ⊥) → filter p (y ∷ x ∷ rest) ≡ filter p (x ∷ y ∷ rest)
    swapped p x y rest once =
        elim (p x) as (λ a. p x ≡ a → cond (p y) (y ∷ cond a (x ∷ filter p rest) (filter p rest)) (cond a (x ∷ filter p rest) (filter p rest))
        ≡ cond a (x ∷ cond (p y) (y ∷ filter p rest) (filter p rest)) (cond (p y) (y ∷ filter p rest) (filter p rest))) [
          | true ↦ λ px. elim (p y) as (λ b. p y ≡ b → cond b (y ∷ x ∷ filter p rest) (x ∷ filter p rest) ≡ x ∷ cond b (y ∷ filter p rest) (filter p rest)) [
            | true ↦ λ py. absurd (once px py)
            | false ↦ λ py. refl
          ] refl
          | false ↦ λ px. refl
        ] refl

    filter-put : (z x : X) (ys : List X) → filter (ties lt z) (put_before x ys) ≡ filter (ties lt z) (x ∷ ys)
    filter-put z x [] = refl
    filter-put z x (y ∷ ys) =
        elim (lt y x) as (λ r. lt y x ≡ r → filter (ties lt z) (if r then y ∷ put_before x ys else x ∷ y ∷ ys) ≡ filter (ties lt z) (x ∷ y ∷ ys)) [
          | true ↦ λ e. ap (λ rest. cond (ties lt z y) (y ∷ rest) rest) (filter-put z x ys) ∙ swapped (ties lt z) x y ys (apart x y z e)
          | false ↦ λ e. refl
        ] refl

    filter-in_order : (z : X) (xs : List X) → filter (ties lt z) (in_order xs) ≡ filter (ties lt z) xs
    filter-in_order z [] = refl
    filter-in_order z (x ∷ xs) = filter-put z x (in_order xs) ∙ ap (λ rest. cond (ties lt z x) (x ∷ rest) rest) (filter-in_order z xs)

    below_itself : (x : X) → lt x x ≡ false
    below_itself x =
        elim (lt x x) as (λ r. lt x x ≡ r → r ≡ false) [
          | true ↦ λ e. sym e ∙ order.one_way x x e
          | false ↦ λ e. refl
        ] refl

    ties_itself : (x : X) → ties lt x x ≡ true
    ties_itself x = rw (below_itself x) refl

    filter-kept : (p : X → Bool) (x : X) (xs : List X) → p x ≡ true → filter p (x ∷ xs) ≡ x ∷ filter p xs
    filter-kept p x xs e = ap (λ r. cond r (x ∷ filter p xs) (filter p xs)) e

    filter-dropped : (p : X → Bool) (x : X) (xs : List X) → p x ≡ false → filter p (x ∷ xs) ≡ filter p xs
    filter-dropped p x xs e = ap (λ r. cond r (x ∷ filter p xs) (filter p xs)) e

    -- what is less than a value ties with nothing that is not below the value
    no_tie : (y z w : X) → lt y z ≡ true → lt w z ≡ false → ties lt y w ≡ false
    no_tie y z w less high =
        elim (ties lt y w) as (λ r. ties lt y w ≡ r → r ≡ false) [
          | true ↦ λ e. let no : lt y z ≡ false = order.chain y w z (ties_low y w e) high in let clash : true ≡ false = sym less ∙ no in cc
          | false ↦ λ e. refl
        ] refl

    none_tie : (y z : X) (zs : List X) → lt y z ≡ true → Floor z zs → filter (ties lt y) zs ≡ []
    none_tie y z [] less floor = refl
    none_tie y z (w ∷ ws) less floor = filter-dropped (ties lt y) w ws (no_tie y z w less floor.0) ∙ none_tie y z ws less floor.1

    -- a value that is less than the first of a rising list does not stand in a list of the same ties
    not_less : (y z : X) (ys zs : List X) → Floor z zs → filter (ties lt y) (y ∷ ys) ≡ filter (ties lt y) (z ∷ zs) → lt y z ≡ false
    not_less y z ys zs floor same =
        elim (lt y z) as (λ r. lt y z ≡ r → r ≡ false) [
          | true ↦ λ less.
              let none : filter (ties lt y) (z ∷ zs) ≡ [] = none_tie y z (z ∷ zs) less (below_itself z, floor) in
              let clash : y ∷ filter (ties lt y) ys ≡ [] = sym (filter-kept (ties lt y) y ys (ties_itself y)) ∙ (same ∙ none) in cc
          | false ↦ λ e. refl
        ] refl

    head_same : (y z : X) (ys zs : List X) → y ∷ ys ≡ z ∷ zs → y ≡ z
    head_same y z ys zs e = cc

    tail_same : (y z : X) (ys zs : List X) → y ∷ ys ≡ z ∷ zs → ys ≡ zs
    tail_same y z ys zs e = cc

    -- the rests of two lists with one first value have the same ties
    rests_same : (p : X → Bool) (x : X) (ys zs : List X) → filter p (x ∷ ys) ≡ filter p (x ∷ zs) → filter p ys ≡ filter p zs
    rests_same p x ys zs =
        elim (p x) as (λ r. cond r (x ∷ filter p ys) (filter p ys) ≡ cond r (x ∷ filter p zs) (filter p zs) → filter p ys ≡ filter p zs) [
          | true ↦ λ e. tail_same x x _ _ e
          | false ↦ λ e. e
        ]

    -- two rising lists with the same ties are one
    pub only_order : (ys zs : List X) → Rising ys → Rising zs → ((x : X) → filter (ties lt x) ys ≡ filter (ties lt x) zs) → ys ≡ zs
    only_order [] [] up down same = refl
    only_order [] (z ∷ zs) up down same =
        let clash : [] ≡ z ∷ filter (ties lt z) zs = same z ∙ filter-kept (ties lt z) z zs (ties_itself z) in cc
    only_order (y ∷ ys) [] up down same =
        let clash : [] ≡ y ∷ filter (ties lt y) ys = sym (same y) ∙ filter-kept (ties lt y) y ys (ties_itself y) in cc
    only_order (y ∷ ys) (z ∷ zs) up down same =
        let low : lt y z ≡ false = not_less y z ys zs down.0 (same y) in
        let high : lt z y ≡ false = not_less z y zs ys up.0 (sym (same z)) in
        let tied : ties lt y z ≡ true = rw (low, high) refl in
        let both : y ∷ filter (ties lt y) ys ≡ z ∷ filter (ties lt y) zs =
        sym (filter-kept (ties lt y) y ys (ties_itself y)) ∙ (same y ∙ filter-kept (ties lt y) z zs tied) in
        let first : y ≡ z = head_same y z _ _ both in
        let rests : (x : X) → filter (ties lt x) ys ≡ filter (ties lt x) zs =
        λ x. rests_same (ties lt x) y ys zs (same x ∙ ap (λ w. filter (ties lt x) (w ∷ zs)) (sym first)) in
        ap (λ w. w ∷ ys) first ∙ ap (λ rest. z ∷ rest) (only_order ys zs up.1 down.1 rests)

    -- what a stable sort makes of a list is its order
    pub in_order-from_sort : (xs ys : List X) → IsSortedBy lt ys → IsStableBy lt xs ys → ys ≡ in_order xs
    in_order-from_sort xs ys sorted stable =
        only_order ys (in_order xs) (Rising-from_sorted ys sorted) (Rising-in_order xs) (λ x. stable x ∙ sym (filter-in_order x xs))
