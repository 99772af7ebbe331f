-- Ascending lists of numbers: what a search finds in them, and what stays where a number is put in or taken out.
use Rattle.std.proofs.Common.{◌≡◌, ◌≢◌, ℕ, zero, suc, ◌+◌, ◌-◌, ◌<◌, ◌≤◌, List, ◌∷◌, length, get_or, take, Ok, Err, sym, ◌∙◌, inl, inr, arith}
use Rattle.std.specs.Prelude.{◌⊎◌, Contains, insert, remove}
use Rattle.std.specs.Ordering.{nat_cmp}
use Rattle.std.specs.List.Sorted.{IsPermutation, IsBinarySearchResult}
use Rattle.std.proofs.Math.Decide.{dec_lt}
use Rattle.std.proofs.lemmas.List.{get_or_default}
use Rattle.std.proofs.lemmas.List.Edits.{length-insert, get_or-insert_below, get_or-insert_at, get_or-insert_above, length-remove, get_or-remove_below, get_or-remove_above}
use Rattle.std.proofs.lemmas.List.Quantifiers.{all_pairs_remove}
use Rattle.std.proofs.lemmas.List.Sorted.{searched, IsPermutation-insert, IsPermutation-remove, IsPermutation-sym, Contains-permutation}
use Rattle.feature_index.specs.Postings.{Ascends, Exchanges, Gains, Loses}

-- an earlier number is at most a later one
rising : (xs : List ℕ) → Ascends xs → (i j : ℕ) → i ≤ j → j < length xs → get_or xs i 0 ≤ get_or xs j 0
rising xs a i j le jl =
    elim (dec_lt i j) as (λ _. get_or xs i 0 ≤ get_or xs j 0) [
      | yes h ↦ (let less : get_or xs i 0 < get_or xs j 0 = a i j 0 h jl in omega arith)
      | no h ↦ (let same : i ≡ j = omega arith in rw same (omega arith))
    ]

-- where a number that is not there would go
pub record IsGap (xs : List ℕ) (x place : ℕ) : Type 0 where
  pub within : place ≤ length xs
  pub below : (k : ℕ) → k < place → get_or xs k 0 < x
  pub above : (k : ℕ) → place ≤ k → k < length xs → x < get_or xs k 0

pub gap-from_search : (xs : List ℕ) (x place : ℕ) → Ascends xs → IsBinarySearchResult (λ y. nat_cmp y x) xs (Err place) → IsGap xs x place
gap-from_search xs x place a r =
    let (within, below, above) = searched xs x (Err place) r (rising xs a) in
    record { within = within; below = below; above = above }

-- at the place that a search finds stands the number
pub found-from_search : (xs : List ℕ) (x place : ℕ) → Ascends xs → IsBinarySearchResult (λ y. nat_cmp y x) xs (Ok place) → (place < length xs) × (get_or xs place 0 ≡ x)
found-from_search xs x place a r = searched xs x (Ok place) r (rising xs a)

-- a number that has a gap is not in the list
pub absent-from_gap : (xs : List ℕ) (x place : ℕ) → IsGap xs x place → Contains xs x → ⊥
absent-from_gap xs x place g (k, kl, e) =
    let e' : get_or xs k 0 ≡ x = get_or_default xs k 0 x kl ∙ e in
    elim (dec_lt k place) as (λ _. ⊥) [
      | yes h ↦ (let less = g.below k h in omega arith)
      | no h ↦ (let more = g.above k (omega arith) kl in omega arith)
    ]

module _ (xs : List ℕ) (x place : ℕ) (a : Ascends xs) (g : IsGap xs x place) where
  -- what stands at each place once the number is put in
  before : (k : ℕ) → k < place → get_or (insert xs place x) k 0 ≡ get_or xs k 0
  before k h = get_or-insert_below xs place x 0 k h g.within

  here : get_or (insert xs place x) place 0 ≡ x
  here = get_or-insert_at xs place x 0 g.within

  after : (k : ℕ) → place ≤ k → get_or (insert xs place x) (k + 1) 0 ≡ get_or xs k 0
  after k h = get_or-insert_above xs place x 0 k h g.within

  -- the number at a place is less than that at the next
  next : (k : ℕ) → k + 1 < length (insert xs place x) → get_or (insert xs place x) k 0 < get_or (insert xs place x) (k + 1) 0
  next k kl =
      let n = length-insert xs place x g.within in
      elim (dec_lt (k + 1) place) as (λ _. get_or (insert xs place x) k 0 < get_or (insert xs place x) (k + 1) 0) [
        | yes h ↦ (let p = before k (omega arith) in let q = before (k + 1) h in
            let w = g.within in let less = a k (k + 1) 0 (omega arith) (omega arith) in omega arith)
        | no h ↦ elim (dec_lt k place) as (λ _. get_or (insert xs place x) k 0 < get_or (insert xs place x) (k + 1) 0) [
          | yes last ↦ (let same : place ≡ k + 1 = omega arith in let p = before k last in
              let q : get_or (insert xs place x) (k + 1) 0 ≡ x = rw (← same) here in let less = g.below k last in omega arith)
          | no past ↦ elim (dec_lt place k) as (λ _. get_or (insert xs place x) k 0 < get_or (insert xs place x) (k + 1) 0) [
            | yes far ↦ (let one : (k - 1) + 1 ≡ k = omega arith in
                let p : get_or (insert xs place x) k 0 ≡ get_or xs (k - 1) 0 = rw one at (after (k - 1) (omega arith)) in
                let q = after k (omega arith) in let less = a (k - 1) k 0 (omega arith) (omega arith) in omega arith)
            | no near ↦ (let same : place ≡ k = omega arith in
                let p : get_or (insert xs place x) k 0 ≡ x = rw (← same) here in
                let q = after k (omega arith) in let more = g.above k (omega arith) (omega arith) in omega arith)
          ]
        ]
      ]

-- a list of which each number is less than the next ascends
pub ascends-from_next : (xs : List ℕ) → ((k : ℕ) → k + 1 < length xs → get_or xs k 0 < get_or xs (k + 1) 0) → Ascends xs
ascends-from_next xs step i j d ij jl =
    let far : (n : ℕ) → i + 1 + n < length xs → get_or xs i 0 < get_or xs (i + 1 + n) 0 = go i in
    let e : i + 1 + (j - (i + 1)) ≡ j = omega arith in
    let less : get_or xs i 0 < get_or xs j 0 = rw e at (far (j - (i + 1)) (omega arith)) in
    let p = get_or_default xs i d 0 (omega arith) in
    let q = get_or_default xs j d 0 jl in
    omega arith
  where
    go : (i : ℕ) (n : ℕ) → i + 1 + n < length xs → get_or xs i 0 < get_or xs (i + 1 + n) 0
    go i zero h = let e : i + 1 + 0 ≡ i + 1 = omega arith in rw e (step i (omega arith))
    go i (suc n) h =
        let e : i + 1 + suc n ≡ (i + 1 + n) + 1 = omega arith in
        let less = go i n (omega arith) in
        let more = step (i + 1 + n) (omega arith) in
        rw e (omega arith)

-- a number that is put in its gap leaves the list ascending
pub Ascends-insert : (xs : List ℕ) (x place : ℕ) → Ascends xs → IsGap xs x place → Ascends (insert xs place x)
Ascends-insert xs x place a g = ascends-from_next (insert xs place x) (next xs x place a g)

pub Gains-insert : (xs : List ℕ) (x place : ℕ) → Gains xs (insert xs place x) x
Gains-insert xs x place =
    let p : IsPermutation (x ∷ xs) (insert xs place x) = IsPermutation-insert xs place x in
    record {
      numbers = λ n. (
        λ c. let (k, kl, e) = Contains-permutation (insert xs place x) (x ∷ xs) n (IsPermutation-sym (x ∷ xs) (insert xs place x) p) c in from n k kl e,
        λ h. Contains-permutation (x ∷ xs) (insert xs place x) n p (to n h),
      );
    }
  where
    to : (n : ℕ) → Contains xs n ⊎ (n ≡ x) → Contains (x ∷ xs) n
    to n (inl (k, kl, e)) = (suc k, omega arith, e)
    to n (inr e) = (0, omega arith, sym e)

    from : (n k : ℕ) → k < length (x ∷ xs) → get_or (x ∷ xs) k n ≡ n → Contains xs n ⊎ (n ≡ x)
    from n zero kl e = inr (sym e)
    from n (suc k) kl e = inl (k, omega arith, e)

-- a number that is taken out leaves the list ascending
pub Ascends-remove : (xs : List ℕ) (place : ℕ) → Ascends xs → place < length xs → Ascends (remove xs place)
Ascends-remove xs place a within = all_pairs_remove (λ m n. m < n) xs place within a

-- the numbers that are left
pub Loses-remove : (xs : List ℕ) (x place : ℕ) → Ascends xs → place < length xs → get_or xs place 0 ≡ x → Loses xs (remove xs place) x
Loses-remove xs x place a within is =
    let at : get_or xs place x ≡ x = get_or_default xs place x 0 within ∙ is in
    let p : IsPermutation xs (x ∷ remove xs place) = IsPermutation-remove xs place x within (sym at) in
    let back = IsPermutation-sym xs (x ∷ remove xs place) p in
    record {
      numbers = λ n. (
        λ (k, kl, e). (
          Contains-permutation (x ∷ remove xs place) xs n back (suc k, omega arith, e),
          λ same. other n k kl e same,
        ),
        λ (c, ne). rest n ne (Contains-permutation xs (x ∷ remove xs place) n p c),
      );
    }
  where
    rest : (n : ℕ) → n ≢ x → Contains (x ∷ remove xs place) n → Contains (remove xs place) n
    rest n ne (zero, kl, e) = absurd (ne (sym e))
    rest n ne (suc k, kl, e) = (k, omega arith, e)

    other : (n k : ℕ) → k < length (remove xs place) → get_or (remove xs place) k n ≡ n → n ≡ x → ⊥
    other n k kl e same =
        let e' : get_or (remove xs place) k 0 ≡ n = get_or_default (remove xs place) k 0 n kl ∙ e in
        elim (dec_lt k place) as (λ _. ⊥) [
          | yes h ↦ (let q = get_or-remove_below xs place 0 k h within in let less = a k place 0 h within in omega arith)
          | no h ↦ (let q = get_or-remove_above xs place 0 k (omega arith) within in
              let l = length-remove xs place within in
              let more = a place (k + 1) 0 (omega arith) (omega arith) in omega arith)
        ]

-- a number that is not there is not there either once another is taken out
pub absent-after : (old mid : List ℕ) (from to : ℕ) → Loses old mid from → (Contains old to → ⊥) → Contains mid to → ⊥
absent-after old mid from to loses absent there = absent ((loses.numbers to).0 there).0

-- a number that is taken out, and another that is put in
pub Exchanges-then : (old mid new : List ℕ) (from to : ℕ) → Loses old mid from → Gains mid new to → Exchanges old new from to
Exchanges-then old mid new from to loses gains = record {
  numbers = λ n. (
    λ c. elim ((gains.numbers n).0 c) [ inl there ↦ inl ((loses.numbers n).0 there) | inr same ↦ inr same ],
    λ h. (gains.numbers n).1 (elim h [ inl there ↦ inl ((loses.numbers n).1 there) | inr same ↦ inr same ]),
  );
}

-- where a number is among the first ones, there is a first one
pub one-less : (places : List ℕ) (count x : ℕ) → Contains (take count places) x → count - 1 + 1 ≡ count
one-less places zero x (k, kl, e) = absurd (omega arith)
one-less places (suc n) x there = omega arith
