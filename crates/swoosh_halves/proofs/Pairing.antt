-- Values in two rows of which no two match, and what one value more makes of them.
use Rattle.std.proofs.Common.{◌≡◌, ℕ, ◌+◌, ◌≤◌, Bool, true, false, cond, IsTrue, List, [], ◌∷◌, ◌++◌, Option, None, length, get_or, append_assoc, refl, sym, ◌∙◌, ap, subst, inl, inr, arith}
use Rattle.std.specs.Prelude.{◌⊎◌, All, Contains, count_by, sum_by}
use Rattle.std.specs.List.Sorted.{IsPermutation}
use Rattle.std.proofs.lemmas.List.{get_or_append_left, get_or_at, length-append, map-append}
use Rattle.std.proofs.lemmas.List.Elements.{All-append, All-contains, Contains-append_left, Contains-append_right, Contains-append_cases, Contains-push_cases}
use Rattle.std.proofs.lemmas.List.Sorted.{IsPermutation-sym, IsPermutation-trans, IsPermutation-map, IsPermutation-middle, IsPermutation-to_front, IsPermutation-append_left, IsPermutation-append_right, Contains-permutation}
use Rattle.std.proofs.lemmas.List.Sums.{sum_by-append, sum_by-cons, sum_by_push}
use Rattle.merge_laws.specs.Reach.{near, reach}
use Rattle.merge_laws.specs.Resolution.{JoinLaws, MatchLaws, IsDominated, IsResolution, DoNotMatch, AreApart}
use Rattle.merge_laws.proofs.InsertingAll.{resolved-itself, resolved-merged, joined-within}
use Rattle.merge_laws.proofs.Places.{Contains-head, Contains-tail, AllPairs-permutation, AllPairs-rest}
use Rattle.merge_laws.proofs.Resolving.{resolving_inserted, resolving_kept, IsResolution-from_resolving}
use Rattle.swoosh_resolver.specs.Tables.{AreFree, Base, Entry, values_of}
use Rattle.swoosh_resolver.specs.Insertions.{MergesMatch}
use Rattle.swoosh_resolver.proofs.Views.{count-map}

module _ {R K : Type 0} {match : R → R → Bool} {merge : R → R → R} where
  -- values that stand on no block go on standing on none
  pub free_before : (row row' : List (Entry R K)) (value merged : R) → MergesMatch match merge row value row' merged → AreFree row → AreFree row'
  free_before row row' value merged m free e c = free e (Contains-permutation (m.by ∷ row') row e (IsPermutation-sym row (m.by ∷ row') m.taken) (Contains-tail m.by row' e c))

  -- a match in one of the rows is one in both
  pub merges_first : (met apart met' : List (Entry R K)) (value merged : R) → MergesMatch match merge met value met' merged → MergesMatch match merge (met ++ apart) value (met' ++ apart) merged
  merges_first met apart met' value merged m = record {
    by = m.by;
    taken = IsPermutation-append_left apart met (m.by ∷ met') m.taken;
    matches = m.matches;
    is = m.is;
  }

  pub merges_second : (met apart apart' : List (Entry R K)) (value merged : R) → MergesMatch match merge apart value apart' merged → MergesMatch match merge (met ++ apart) value (met ++ apart') merged
  merges_second met apart apart' value merged m = record {
    by = m.by;
    taken = IsPermutation-trans (met ++ apart) (met ++ m.by ∷ apart') (m.by ∷ met ++ apart')
        (IsPermutation-append_right met apart (m.by ∷ apart') m.taken)
        (IsPermutation-middle met m.by apart');
    matches = m.matches;
    is = m.is;
  }

  -- a row is the value that is taken out and the others
  taken_values : (row row' : List (Entry R K)) (value merged : R) (m : MergesMatch match merge row value row' merged) → IsPermutation (values_of row) (m.by.value ∷ values_of row')
  taken_values row row' value merged m = IsPermutation-map (λ (e : Entry R K). e.value) row (m.by ∷ row') m.taken

  -- the others were there before
  pub among_before : (row row' : List (Entry R K)) (value merged : R) → MergesMatch match merge row value row' merged → (x : R) → Contains (values_of row') x → Contains (values_of row) x
  among_before row row' value merged m x c =
      Contains-permutation (m.by.value ∷ values_of row') (values_of row) x
      (IsPermutation-sym (values_of row) (m.by.value ∷ values_of row') (taken_values row row' value merged m)) (Contains-tail m.by.value (values_of row') x c)

  -- and are apart as before
  pub apart_before : (row row' : List (Entry R K)) (value merged : R) → MergesMatch match merge row value row' merged → AreApart match (values_of row) → AreApart match (values_of row')
  apart_before row row' value merged m apart =
      AllPairs-rest (DoNotMatch match) m.by.value (values_of row')
      (AllPairs-permutation (DoNotMatch match) (λ x y h. (h.1, h.0)) (values_of row) (m.by.value ∷ values_of row') (taken_values row row' value merged m) apart)

  -- a value that matches none of a row is merged with none
  pub never_merges : (row row' : List (Entry R K)) (value merged : R) → MergesMatch match merge row value row' merged → All (λ w. match value w ≡ false) (values_of row) → ⊥
  never_merges row row' value merged m none =
      let there : Contains (values_of row) m.by.value =
      Contains-permutation (m.by.value ∷ values_of row') (values_of row) m.by.value
      (IsPermutation-sym (values_of row) (m.by.value ∷ values_of row') (taken_values row row' value merged m)) (Contains-head m.by.value (values_of row')) in
      let no : match value m.by.value ≡ false = All-contains (λ w. match value w ≡ false) (values_of row) m.by.value none there in
      let yes : IsTrue (match value m.by.value) = m.matches in
      cc

module _ {R K : Type 0} where
  -- what holds of the values of each row holds of those of both
  pub All-both : (P : R → Type 0) (met apart : List (Entry R K)) → All P (values_of met) → All P (values_of apart) → All P (values_of (met ++ apart))
  All-both P met apart first second = subst (All P) (sym (map-append (λ (e : Entry R K). e.value) met apart)) (All-append P (values_of met) (values_of apart) first second)

  -- a value is put last in the second row, or in the first
  pub last_of_second : (met apart : List (Entry R K)) (e : Entry R K) → values_of (met ++ (apart ++ e ∷ [])) ≡ values_of (met ++ apart) ++ e.value ∷ []
  last_of_second met apart e = ap values_of (sym (append_assoc met apart (e ∷ []))) ∙ map-append (λ (e : Entry R K). e.value) (met ++ apart) (e ∷ [])

  pub last_of_first : (met apart : List (Entry R K)) (e : Entry R K) → IsPermutation (values_of (met ++ apart) ++ e.value ∷ []) (values_of ((met ++ e ∷ []) ++ apart))
  last_of_first met apart e =
      let moved : IsPermutation (met ++ (apart ++ e ∷ [])) ((met ++ e ∷ []) ++ apart) =
      rw (append_assoc met (e ∷ []) apart) (IsPermutation-append_right met (apart ++ e ∷ []) (e ∷ apart) (IsPermutation-to_front apart e)) in
      subst (λ vs. IsPermutation vs (values_of ((met ++ e ∷ []) ++ apart))) (last_of_second met apart e)
      (IsPermutation-map (λ (e : Entry R K). e.value) (met ++ (apart ++ e ∷ [])) ((met ++ e ∷ []) ++ apart) moved)

module _ {A : Type 0} {match : A → A → Bool} {merge : A → A → A} (join : JoinLaws merge) (laws : MatchLaws match merge) where
  -- values of which no two match are their own resolution
  pub resolved_itself : (list : List A) → AreApart match list → IsResolution match merge list list
  resolved_itself = resolved-itself join laws

  -- so are they with one more that matches none
  pub resolved_kept : (list : List A) (value : A) → AreApart match list → All (λ w. match value w ≡ false) list → IsResolution match merge (list ++ value ∷ []) (list ++ value ∷ [])
  resolved_kept list value apart none =
      IsResolution-from_resolving join laws (list ++ value ∷ []) (list ++ value ∷ [])
      (resolving_kept join laws (list ++ value ∷ []) [] list value (resolving_inserted join laws list value apart) none)

  -- what resolves the merge of a value and a member, and the other members, resolves all of them and the value
  pub resolved_merged : {K : Type 0} (row row' : List (Entry A K)) (value merged : A) (all : List A) → AreApart match (values_of row) → MergesMatch match merge row value row' merged → IsResolution match merge (values_of row' ++ merged ∷ []) all → IsResolution match merge (values_of row ++ value ∷ []) all
  resolved_merged row row' value merged all apart m r =
      resolved-merged join laws (values_of row) value m.by.value (values_of row') all apart (taken_values row row' value merged m) m.matches
      (subst (λ w. IsResolution match merge (values_of row' ++ w ∷ []) all) m.is r)

  -- a look that finds a match, and then the insertion of the merge into the others, are within the reach of the insertion
  module _ {is_near : A → A → Bool} (grows : (w x y : A) → IsTrue (is_near w x) → IsTrue (is_near w (merge x y))) where
    pub merged_within : {K : Type 0} (row row' : List (Entry A K)) (value merged : A) (start now then' : ℕ) → AreApart match (values_of row) → MergesMatch match merge row value row' merged → now ≤ start + near is_near (values_of row) value
        → ((all : List A) (x : A) → IsResolution match merge (values_of row' ++ merged ∷ []) all → Contains all x → IsDominated match merge merged x → then' ≤ now + reach match is_near (values_of row') x)
        → (all : List A) (x : A) → IsResolution match merge (values_of row ++ value ∷ []) all → Contains all x → IsDominated match merge value x → then' ≤ start + reach match is_near (values_of row) x
    merged_within row row' value merged start now then' apart m looked paid =
        joined-within join laws grows (values_of row) (values_of row') value m.by.value start now then' apart (taken_values row row' value merged m) m.matches looked
        (subst (λ w. (all : List A) (x : A) → IsResolution match merge (values_of row' ++ w ∷ []) all → Contains all x → IsDominated match merge w x → then' ≤ now + reach match is_near (values_of row') x) m.is paid)

-- a test that does not pass fails
fails : (b : Bool) → (IsTrue b → ⊥) → b ≡ false
fails true never = absurd (never refl)
fails false never = refl

-- of values that are apart, one matches none of those before it
pub unmatched_before : {A : Type 0} (match : A → A → Bool) (list front rest : List A) (value x : A) → list ≡ front ++ value ∷ rest → AreApart match list → Contains front x → match value x ≡ false
unmatched_before match list front rest value x whole apart (k, kl, e) =
    let all : AreApart match (front ++ value ∷ rest) = subst (AreApart match) whole apart in
    let long = length-append front (value ∷ rest) in
    let here = get_or_append_left front (value ∷ rest) x k kl ∙ e in
    let there = get_or_at front value rest x (length front) refl in
    let never : DoNotMatch match (get_or (front ++ value ∷ rest) k x) (get_or (front ++ value ∷ rest) (length front) x) = all k (length front) x kl (omega arith) in
    let none : DoNotMatch match x value = rw (here, there) at never in
    fails (match value x) none.1

-- what has no base is put aside with none
pub base-none : {R : Type 0} {base base' : Option (Base R)} → (base ≡ None) ⊎ (base ≡ base') → base' ≡ None → base ≡ None
base-none {R} {base} {base'} either none = elim either as (λ _. base ≡ None) [ inl is ↦ is | inr same ↦ same ∙ none ]

-- so do two rows of them, with one more
pub free_first : {R K : Type 0} (met apart : List (Entry R K)) (e : Entry R K) → AreFree (met ++ apart) → e.base ≡ None → AreFree ((met ++ e ∷ []) ++ apart)
free_first {R} {K} met apart e free none f c = elim (Contains-append_cases (met ++ e ∷ []) apart f c) as (λ _. f.base ≡ None) [
  | inl first ↦ elim (Contains-push_cases met e f first) as (λ _. f.base ≡ None) [
    | inl before ↦ free f (Contains-append_left met apart f before)
    | inr same ↦ subst (λ (z : Entry R K). z.base ≡ None) same none
  ]
  | inr second ↦ free f (Contains-append_right met apart f second)
]

pub free_second : {R K : Type 0} (met apart : List (Entry R K)) (e : Entry R K) → AreFree (met ++ apart) → e.base ≡ None → AreFree (met ++ (apart ++ e ∷ []))
free_second {R} {K} met apart e free none f c = elim (Contains-append_cases met (apart ++ e ∷ []) f c) as (λ _. f.base ≡ None) [
  | inl first ↦ free f (Contains-append_left met apart f first)
  | inr second ↦ elim (Contains-push_cases apart e f second) as (λ _. f.base ≡ None) [
    | inl before ↦ free f (Contains-append_right met apart f before)
    | inr same ↦ subst (λ (z : Entry R K). z.base ≡ None) same none
  ]
]

-- the tests of a value among the entries of both rows are those among their values, and those of the first row are among them
near_both : {R K : Type 0} (is_near : R → R → Bool) (met apart : List (Entry R K)) (value : R) → near is_near (values_of (met ++ apart)) value ≡ count_by (λ e. is_near e.value value) met + count_by (λ e. is_near e.value value) apart
near_both {R} {K} is_near met apart value = count-map (λ w. is_near w value) (met ++ apart) ∙ sum_by-append (λ (e : Entry R K). cond (is_near e.value value) 1 0) met apart

pub paid_first : {R K : Type 0} (is_near : R → R → Bool) (met apart : List (Entry R K)) (value : R) (start now : ℕ) → now ≤ start + count_by (λ e. is_near e.value value) met → now ≤ start + near is_near (values_of (met ++ apart)) value
paid_first is_near met apart value start now paid = rw (near_both is_near met apart value) (omega arith)

pub paid_both : {R K : Type 0} (is_near : R → R → Bool) (met apart : List (Entry R K)) (value : R) (start now then' : ℕ) → now ≤ start + count_by (λ e. is_near e.value value) met → then' ≤ now + count_by (λ e. is_near e.value value) apart
    → then' ≤ start + near is_near (values_of (met ++ apart)) value
paid_both is_near met apart value start now then' paid more = rw (near_both is_near met apart value) (omega arith)

-- the tests of a value, counted over a row, are those over the list that the row has the values of
pub paid_near : {R K : Type 0} (is_near : R → R → Bool) (met : List (Entry R K)) (list : List R) (value : R) (now then' : ℕ) → values_of met ≡ list → then' ≤ now + count_by (λ e. is_near e.value value) met → then' ≤ now + near is_near list value
paid_near is_near met list value now then' is paid =
    subst (λ n. then' ≤ now + n) (sym (count-map (λ w. is_near w value) met) ∙ ap (λ values. near is_near values value) is) paid

-- what each value so far may cost, with one value more
pub spent_more : {A : Type 0} (f : A → ℕ) (front : List A) (value : A) (start now then' : ℕ) → now ≤ start + sum_by f front → then' ≤ now + f value → then' ≤ start + sum_by f (front ++ value ∷ [])
spent_more f front value start now then' spent paid = let more = sum_by_push f front value in omega arith

-- and with all that are left
pub spent_within : {A : Type 0} (f : A → ℕ) (list front rest : List A) (value : A) (start now then' : ℕ) → list ≡ front ++ value ∷ rest → now ≤ start + sum_by f front → then' ≤ now + f value → then' ≤ start + sum_by f list
spent_within f list front rest value start now then' whole spent paid =
    let whole' = sum_by-append f front (value ∷ rest) in
    let more = sum_by-cons f value rest in
    rw whole (omega arith)
