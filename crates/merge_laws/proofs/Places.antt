-- Lists seen by their places: which places a relation can hold between, and what an order of the members leaves alone.
use Rattle.std.proofs.Common.{◌≡◌, ℕ, zero, suc, ◌+◌, ◌<◌, ◌≢◌, ◌==◌, cond, List, [], ◌∷◌, ◌++◌, length, get_or, length-append, refl, sym, ◌∙◌, ap, inl, inr, arith}
use Rattle.std.specs.Prelude.{◌⊎◌, All, Contains, AllPairs, swap, remove}
use Rattle.std.proofs.Math.Decide.{dec_lt}
use Rattle.std.proofs.lemmas.Bool.Decides.{nat_tests}
use Rattle.std.specs.List.Sorted.{IsPermutation}
use Rattle.std.proofs.lemmas.List.{get_or_default}
use Rattle.std.proofs.lemmas.List.Edits.{swapped_from_swap, length-swap}
use Rattle.std.proofs.lemmas.List.Sorted.{IsPermutation-keeps, IsPermutation-refl, IsPermutation-sym, IsPermutation-cons, IsPermutation-trans, IsPermutation-remove, Contains-permutation}
use Rattle.std.proofs.lemmas.List.Kept.{AllPairs-cons}
use Rattle.std.proofs.lemmas.List.Elements.{Contains-append_cases, All-weaker, All-contains_itself}

-- the first member of a list, and a member of the rest
pub Contains-head : {A : Type 0} (x : A) (xs : List A) → Contains (x ∷ xs) x
Contains-head x xs = (0, omega arith, refl)

pub Contains-tail : {A : Type 0} (x : A) (xs : List A) (y : A) → Contains xs y → Contains (x ∷ xs) y
Contains-tail x xs y (k, kl, e) = (suc k, omega arith, e)

-- a member of x ∷ xs is x or a member of xs
pub Contains-cases : {A : Type 0} (x : A) (xs : List A) (y : A) → Contains (x ∷ xs) y → (x ≡ y) ⊎ Contains xs y
Contains-cases x xs y (zero, kl, e) = inl e
Contains-cases x xs y (suc k, kl, e) = inr (k, omega arith, e)

-- what holds of each member, by membership
pub All-from_members : {A : Type 0} (P : A → Type 0) (xs : List A) → ((x : A) → Contains xs x → P x) → All P xs
All-from_members P xs each = All-weaker (Contains xs) P each xs (All-contains_itself xs)

module _ {A : Type 0} (R : A → A → Type 0) where
  -- R holds between no two members at different places, in either direction
  abbrev pub AreUnrelated : List A → Type 0
  AreUnrelated xs = AllPairs (λ x y. (R x y → ⊥) × (R y x → ⊥)) xs

  -- members that are related stand at one place
  pub place-from_related : (xs : List A) → AreUnrelated xs → (i j : ℕ) (x y : A) → i < length xs → j < length xs → get_or xs i x ≡ x → get_or xs j y ≡ y → R x y → i ≡ j
  place-from_related xs apart i j x y il jl ex ey r =
      let here : get_or xs i y ≡ x = get_or_default xs i y x il ∙ ex in
      let before : i < j → ⊥ = λ h. let two : R (get_or xs i y) (get_or xs j y) → ⊥ = (apart i j y h jl).0 in two (rw (here, ey) r) in
      let after : j < i → ⊥ = λ h. let two : R (get_or xs i y) (get_or xs j y) → ⊥ = (apart j i y h il).1 in two (rw (here, ey) r) in
      omega (arith, before, after)

  -- members that are related are one
  pub same-from_related : (xs : List A) → AreUnrelated xs → (x y : A) → Contains xs x → Contains xs y → R x y → x ≡ y
  same-from_related xs apart x y (i, il, ex) (j, jl, ey) r =
      let one : i ≡ j = place-from_related xs apart i j x y il jl ex ey r in
      sym ex ∙ get_or_default xs i x y il ∙ ap (λ k. get_or xs k y) one ∙ ey

-- where place k of a list came from, when the members at i and j changed places
abbrev pub origin : ℕ → ℕ → ℕ → ℕ
origin i j k = cond (k == i) j (cond (k == j) i k)

origin-below : (n i j k : ℕ) → i < n → j < n → k < n → origin i j k < n
origin-below n i j k il jl kl = grind (arith, nat_tests)

origin-apart : (i j k m : ℕ) → k ≢ m → origin i j k ≢ origin i j m
origin-apart i j k m ne e = grind (arith, nat_tests)

get_or-swap : {A : Type 0} (xs : List A) (i j k : ℕ) (d : A) → i < length xs → j < length xs → get_or (swap xs i j) k d ≡ get_or xs (origin i j k) d
get_or-swap xs i j k d il jl =
    let s = swapped_from_swap xs (swap xs i j) i j d il jl refl in
    grind (arith, nat_tests, s.0, s.1, s.2 k)

module _ {A : Type 0} (R : A → A → Type 0) (symmetric : (x y : A) → R x y → R y x) where
  at_places : (xs : List A) → AllPairs R xs → (i j : ℕ) (d : A) → i < length xs → j < length xs → i ≢ j → R (get_or xs i d) (get_or xs j d)
  at_places xs all i j d il jl ne =
      elim (dec_lt i j) [ yes h ↦ all i j d h jl | no h ↦ symmetric _ _ (all j i d (omega arith) il) ]

  AllPairs-swap : (xs : List A) (i j : ℕ) → i < length xs → j < length xs → AllPairs R xs → AllPairs R (swap xs i j)
  AllPairs-swap xs i j il jl all a b d ab bl =
      let n = length-swap xs i j in
      rw (get_or-swap xs i j a d il jl, get_or-swap xs i j b d il jl)
      (at_places xs all (origin i j a) (origin i j b) d
      (origin-below (length xs) i j a il jl (omega arith))
      (origin-below (length xs) i j b il jl (omega arith))
      (origin-apart i j a b (λ e. omega arith)))

  -- of pairs it does not matter in which order the members stand
  pub AllPairs-permutation : (xs ys : List A) → IsPermutation xs ys → AllPairs R xs → AllPairs R ys
  AllPairs-permutation xs ys p all = IsPermutation-keeps xs (AllPairs R) all AllPairs-swap ys p

-- the members after the first
pub AllPairs-rest : {A : Type 0} (R : A → A → Type 0) (x : A) (xs : List A) → AllPairs R (x ∷ xs) → AllPairs R xs
AllPairs-rest R x xs all i j d ij jl = all (suc i) (suc j) d (omega arith) (omega arith)

-- the first member and another
pub AllPairs-first : {A : Type 0} (R : A → A → Type 0) (x : A) (xs : List A) → AllPairs R (x ∷ xs) → (y : A) → Contains xs y → R x y
AllPairs-first R x xs all y (k, kl, e) = let two : R x (get_or xs k y) = all 0 (suc k) y (omega arith) (omega arith) in rw e at two

-- two lists, each with no member twice, that have the same members have them in some order
pub IsPermutation-from_members : {A : Type 0} (xs ys : List A) → AllPairs (λ x y. x ≢ y) xs → AllPairs (λ x y. x ≢ y) ys → ((x : A) → Contains xs x → Contains ys x) → ((x : A) → Contains ys x → Contains xs x) → IsPermutation xs ys
IsPermutation-from_members [] [] once once' there back = IsPermutation-refl []
IsPermutation-from_members [] (y ∷ ys) once once' there back = let (k, kl, e) = back y (Contains-head y ys) in absurd (omega arith)
IsPermutation-from_members {A} (x ∷ xs) ys once once' there back =
    let (j, jl, e) = there x (Contains-head x xs) in
    let rest = remove ys j in
    let moved : IsPermutation ys (x ∷ rest) = IsPermutation-remove ys j x jl (sym e) in
    let once'' : AllPairs (λ x y. x ≢ y) (x ∷ rest) = AllPairs-permutation (λ (x : A) (y : A). x ≢ y) (λ x y ne e. ne (sym e)) ys (x ∷ rest) moved once' in
    let to : (y : A) → Contains xs y → Contains rest y = λ y c.
    elim (Contains-cases x rest y (Contains-permutation ys (x ∷ rest) y moved (there y (Contains-tail x xs y c)))) [
      | inl same ↦ absurd (AllPairs-first (λ (x : A) (y : A). x ≢ y) x xs once y c same)
      | inr c' ↦ c'
    ] in
    let from : (y : A) → Contains rest y → Contains xs y = λ y c.
    elim (Contains-cases x xs y (back y (Contains-permutation (x ∷ rest) ys y (IsPermutation-sym ys (x ∷ rest) moved) (Contains-tail x rest y c)))) [
      | inl same ↦ absurd (AllPairs-first (λ (x : A) (y : A). x ≢ y) x rest once'' y c same)
      | inr c' ↦ c'
    ] in
    IsPermutation-trans (x ∷ xs) (x ∷ rest) ys
    (IsPermutation-cons x xs rest
    (IsPermutation-from_members xs rest (AllPairs-rest (λ (x : A) (y : A). x ≢ y) x xs once) (AllPairs-rest (λ (x : A) (y : A). x ≢ y) x rest once'') to from))
    (IsPermutation-sym ys (x ∷ rest) moved)

-- two lists of pairs, and the pairs across them
pub AllPairs-append : {A : Type 0} (R : A → A → Type 0) (xs ys : List A) → AllPairs R xs → AllPairs R ys → ((x y : A) → Contains xs x → Contains ys y → R x y) → AllPairs R (xs ++ ys)
AllPairs-append R [] ys first second across = second
AllPairs-append R (x ∷ xs) ys first second across =
    AllPairs-cons R x (xs ++ ys)
    (All-from_members (R x) (xs ++ ys) (λ y c. elim (Contains-append_cases xs ys y c) [
      | inl cx ↦ AllPairs-first R x xs first y cx
      | inr cy ↦ across x y (Contains-head x xs) cy
    ]))
    (AllPairs-append R xs ys (AllPairs-rest R x xs first) second (λ a b ca cb. across a b (Contains-tail x xs a ca) cb))

-- a list of no members, or of one, has no pair
pub AllPairs-none : {A : Type 0} (R : A → A → Type 0) → AllPairs R []
AllPairs-none R i j d ij jl = absurd (omega arith)

pub AllPairs-one : {A : Type 0} (R : A → A → Type 0) (x : A) → AllPairs R (x ∷ [])
AllPairs-one R x i j d ij jl = absurd (omega arith)

-- a list with one more at its end
pub length-from_push : {A : Type 0} (xs ys : List A) (x : A) → ys ≡ xs ++ x ∷ [] → length ys ≡ length xs + 1
length-from_push xs ys x e = ap length e ∙ length-append xs (x ∷ [])
