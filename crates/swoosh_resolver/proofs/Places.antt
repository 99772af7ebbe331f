-- Blocks under numbers: what stands where, once some are taken out.
use Rattle.std.proofs.Common.{◌≡◌, ◌≢◌, ℕ, zero, suc, ◌+◌, ◌-◌, ◌<◌, ◌≤◌, Bool, true, false, cond, eqb, List, [], ◌∷◌, ◌++◌, Option, None, Some, Result, Ok, Err, length, length-take, get_or, take, drop, refl, sym, ◌∙◌, ap, subst, inl, inr, arith}
use Rattle.std.specs.Prelude.{Contains, AllPairs, IsSome, slice_set, count_by}
use Rattle.std.specs.Prelude.{IfOk, IfSome, IfNone, OnOk, option_map}
use Rattle.std.specs.Cmp.{nat_eq_equiv}
use Rattle.std.specs.List.{list_any}
use Rattle.std.proofs.lemmas.Bool.Decides.{nat_tests}
use Rattle.std.specs.List.Sorted.{IsPermutation}
use Rattle.std.proofs.lemmas.List.{get_or-set_other, get_or-take, length-set}
use Rattle.std.proofs.lemmas.List.Sorted.{IsPermutation-refl, IsPermutation-cons, IsPermutation-trans, IsPermutation-middle, length_permutation}
use Rattle.std.proofs.lemmas.List.Sums.{fold_push, sum_by-cons, sum_by_more, sum_by-take-le}
use Rattle.merge_laws.proofs.Places.{Contains-head, Contains-tail, Contains-cases, AllPairs-rest, AllPairs-first}
use Rattle.feature_index.specs.Postings.{Ascends}
use Rattle.swoosh_resolver.specs.Tables.{Entry, block_at, blocks_in}
use Rattle.swoosh_resolver.specs.Changes.{without}
use Rattle.swoosh_resolver.specs.Insertions.{passes}
use Rattle.swoosh_resolver.proofs.Keys.{there-from_found, absent-from_missed}

module _ {X : Type 0} where
  -- one number more is closed
  pub without-push : (blocks : List (Option X)) (closed : List ℕ) (n : ℕ) → without blocks (closed ++ n ∷ []) ≡ slice_set (without blocks closed) n None
  without-push blocks closed n = fold_push (λ left n. slice_set left n None) blocks closed n

  -- a number under which no block stands
  emptied : (blocks : List (Option X)) (n : ℕ) → block_at (slice_set blocks n None) n ≡ None
  emptied [] n = refl
  emptied (b ∷ bs) zero = refl
  emptied (b ∷ bs) (suc n) = emptied bs n

  none-stays_one : (blocks : List (Option X)) (m n : ℕ) → block_at blocks n ≡ None → block_at (slice_set blocks m None) n ≡ None
  none-stays_one [] m n e = e
  none-stays_one (b ∷ bs) zero zero e = refl
  none-stays_one (b ∷ bs) zero (suc n) e = e
  none-stays_one (b ∷ bs) (suc m) zero e = e
  none-stays_one (b ∷ bs) (suc m) (suc n) e = none-stays_one bs m n e

  none-stays : (closed : List ℕ) (blocks : List (Option X)) (n : ℕ) → block_at blocks n ≡ None → block_at (without blocks closed) n ≡ None
  none-stays [] blocks n e = e
  none-stays (m ∷ ms) blocks n e = none-stays ms (slice_set blocks m None) n (none-stays_one blocks m n e)

  -- under a number that is closed no block stands
  pub block-closed : (closed : List ℕ) (blocks : List (Option X)) (n : ℕ) → Contains closed n → block_at (without blocks closed) n ≡ None
  block-closed [] blocks n (k, kl, e) = absurd (omega arith)
  block-closed (m ∷ ms) blocks n c =
      elim (Contains-cases m ms n c) as (λ _. block_at (without (slice_set blocks m None) ms) n ≡ None) [
        | inl same ↦ none-stays ms (slice_set blocks m None) n (rw same (emptied blocks n))
        | inr c' ↦ block-closed ms (slice_set blocks m None) n c'
      ]

  -- under any other number stands what stood there
  pub block-kept : (closed : List ℕ) (blocks : List (Option X)) (n : ℕ) → (Contains closed n → ⊥) → block_at (without blocks closed) n ≡ block_at blocks n
  block-kept [] blocks n open' = refl
  block-kept (m ∷ ms) blocks n open' =
      block-kept ms (slice_set blocks m None) n (λ c. open' (Contains-tail m ms n c))
      ∙ get_or-set_other blocks m n None None (λ e. open' (subst (Contains (m ∷ ms)) (sym e) (Contains-head m ms)))

  -- the blocks are the one under a number and the others
  pub taken-from_set : (blocks : List (Option X)) (n : ℕ) (x : X) → block_at blocks n ≡ Some x → IsPermutation (blocks_in blocks) (x ∷ blocks_in (slice_set blocks n None))
  taken-from_set [] n x e = absurd cc
  taken-from_set (None ∷ bs) zero x e = absurd cc
  taken-from_set (Some y ∷ bs) zero x e = let same : y ≡ x = cc in rw same (IsPermutation-refl (x ∷ blocks_in bs))
  taken-from_set (None ∷ bs) (suc n) x e = taken-from_set bs n x e
  taken-from_set (Some y ∷ bs) (suc n) x e =
      let rest = blocks_in (slice_set bs n None) in
      IsPermutation-trans (y ∷ blocks_in bs) (y ∷ x ∷ rest) (x ∷ y ∷ rest)
      (IsPermutation-cons y (blocks_in bs) (x ∷ rest) (taken-from_set bs n x e))
      (IsPermutation-middle (y ∷ []) x rest)

  -- a block stands under some number
  pub number-from_block : (blocks : List (Option X)) (x : X) → Contains (blocks_in blocks) x → (n : ℕ) × (block_at blocks n ≡ Some x)
  number-from_block [] x (k, kl, e) = absurd (omega arith)
  number-from_block (None ∷ bs) x c = let (n, e) = number-from_block bs x c in (suc n, e)
  number-from_block (Some y ∷ bs) x c =
      elim (Contains-cases y (blocks_in bs) x c) as (λ _. (n : ℕ) × (block_at (Some y ∷ bs) n ≡ Some x)) [
        | inl same ↦ (zero, ap Some same)
        | inr c' ↦ (let (n, e) = number-from_block bs x c' in (suc n, e))
      ]

  module _ (test : X → Bool) where
    counted : (b : Option X) (bs : List (Option X)) → count_by test (blocks_in (b ∷ bs)) ≡ cond (passes test b) 1 0 + count_by test (blocks_in bs)
    counted None bs = omega arith
    counted (Some x) bs = sum_by-cons (λ x. cond (test x) 1 0) x (blocks_in bs)

    -- the blocks from a number on that pass
    abbrev from : List (Option X) → ℕ → ℕ
    from blocks n = count_by test (blocks_in (drop n blocks))

    from-next : (blocks : List (Option X)) (n : ℕ) → from blocks n ≡ cond (passes test (block_at blocks n)) 1 0 + from blocks (suc n)
    from-next [] zero = omega arith
    from-next [] (suc n) = omega arith
    from-next (b ∷ bs) zero = counted b bs
    from-next (b ∷ bs) (suc n) = from-next bs n

    from-later : (blocks : List (Option X)) (n k : ℕ) → from blocks (n + k) ≤ from blocks n
    from-later blocks n zero = let e : n + 0 ≡ n = omega arith in rw e (omega arith)
    from-later blocks n (suc k) =
        let e : n + suc k ≡ suc (n + k) = omega arith in
        let before = from-later blocks n k in
        let next = from-next blocks (n + k) in
        rw e (omega arith)

    passing-from : (numbers : List ℕ) (blocks : List (Option X)) (least : ℕ) → Ascends numbers → ((n : ℕ) → Contains numbers n → least ≤ n) → count_by (λ n. passes test (block_at blocks n)) numbers ≤ from blocks least
    passing-from [] blocks least a above = omega arith
    passing-from (n ∷ ns) blocks least a above =
        let rest = passing-from ns blocks (suc n) (AllPairs-rest (λ m n. m < n) n ns a)
        (λ m c. let less : n < m = AllPairs-first (λ m n. m < n) n ns a m c in omega arith) in
        let one = sum_by-cons (λ n. cond (passes test (block_at blocks n)) 1 0) n ns in
        let next = from-next blocks n in
        let low : least ≤ n = above n (Contains-head n ns) in
        let e : least + (n - least) ≡ n = omega arith in
        let later : from blocks n ≤ from blocks least = rw e at (from-later blocks least (n - least)) in
        omega arith

    -- of blocks under ascending numbers no more pass than of all blocks
    pub passing-le : (numbers : List ℕ) (blocks : List (Option X)) → Ascends numbers → count_by (λ n. passes test (block_at blocks n)) numbers ≤ count_by test (blocks_in blocks)
    passing-le numbers blocks a = passing-from numbers blocks 0 a (λ n c. omega arith)

-- a count of the members up to one of them is at most the whole count
pub counted-up_to : {X : Type 0} (p : X → Bool) (xs : List X) (i : ℕ) (x : X) → i < length xs → x ≡ get_or xs i x → count_by p (take i xs) + cond (p x) 1 0 ≤ count_by p xs
counted-up_to p xs i x il e =
    let more = sum_by_more (λ x. cond (p x) 1 0) xs i x il in
    let more' = rw (← e) at more in
    let all = sum_by-take-le (λ x. cond (p x) 1 0) xs (i + 1) in
    omega arith

-- one member more
pub counted-more : {X : Type 0} (p : X → Bool) (xs : List X) (i : ℕ) (x : X) → i < length xs → x ≡ get_or xs i x → count_by p (take (i + 1) xs) ≡ count_by p (take i xs) + cond (p x) 1 0
counted-more p xs i x il e = let more = sum_by_more (λ x. cond (p x) 1 0) xs i x il in rw (← e) at more

-- a closed number is found by a search, and one that is not closed is not
pub closed-from_found : (closed : List ℕ) (n : ℕ) → list_any (λ y. eqb y n) closed ≡ true → Contains closed n
closed-from_found = there-from_found eqb (λ j k h. grind (arith, nat_tests))

pub open-from_missed : (closed : List ℕ) (n : ℕ) → list_any (λ y. eqb y n) closed ≡ false → Contains closed n → ⊥
open-from_missed = absent-from_missed eqb nat_eq_equiv

module _ {R K : Type 0} where
  -- the block that has the value
  pub block-from_value : (o : Option (Entry R K)) (v : R) → Some v ≡ option_map (λ e. e.value) o → (e : Entry R K) × (o ≡ Some e) × (v ≡ e.value)
  block-from_value None v h = absurd cc
  block-from_value (Some e) v h = (e, refl, cc)

  pub none-from_value : (o : Option (Entry R K)) → None ≡ option_map (λ e. e.value) o → o ≡ None
  none-from_value None h = refl
  none-from_value (Some e) h = absurd cc

-- a fact serves for any option
pub IfNone-always : {X : Type 0} (o : Option X) (P : Type 0) → P → IfNone o P
IfNone-always None P p = p
IfNone-always (Some x) P p = tt

-- what is said of none, and what follows
pub IfNone_then : {X : Type 0} {P Q : Type 0} (o : Option X) → IfNone o P → (P → Q) → IfNone o Q
IfNone_then None p f = f p
IfNone_then (Some x) p f = tt

-- a fact that follows from what is said of some value, and from what is said of none
pub OnOk-from_either : {X E : Type 0} {P : X → Type 0} {Q F : Type 0} (r : Result (Option X) E) → IfOk r (λ o. IfSome o P) → IfOk r (λ o. IfNone o Q) → ((x : X) → P x → F) → (Q → F) → OnOk r F
OnOk-from_either (Ok (Some x)) some none f g = f x some
OnOk-from_either (Ok None) some none f g = g none
OnOk-from_either (Err e) some none f g = tt

module _ {X : Type 0} where
  from_open-one : (blocks : List (Option X)) (m n : ℕ) (x : X) → block_at (slice_set blocks m None) n ≡ Some x → block_at blocks n ≡ Some x
  from_open-one [] m n x e = e
  from_open-one (b ∷ bs) zero zero x e = absurd cc
  from_open-one (b ∷ bs) zero (suc n) x e = e
  from_open-one (b ∷ bs) (suc m) zero x e = e
  from_open-one (b ∷ bs) (suc m) (suc n) x e = from_open-one bs m n x e

  -- an open block stood under its number before
  pub block-from_open : (closed : List ℕ) (blocks : List (Option X)) (n : ℕ) (x : X) → block_at (without blocks closed) n ≡ Some x → block_at blocks n ≡ Some x
  block-from_open [] blocks n x e = e
  block-from_open (m ∷ ms) blocks n x e = from_open-one blocks m n x (block-from_open ms (slice_set blocks m None) n x e)

-- a member that stands at a place is not among those before, where no member stands twice
pub not-before : {X : Type 0} (xs : List X) → AllPairs (λ x y. x ≢ y) xs → (i : ℕ) (x : X) → i < length xs → x ≡ get_or xs i x → Contains (take i xs) x → ⊥
not-before xs once i x il e (j, jl, f) =
    let n = length-take i xs in
    let below : j < i = omega arith in
    once j i x below il (sym (get_or-take i xs j x below) ∙ f ∙ e)

-- closing blocks leaves as many numbers
pub length-without : {X : Type 0} (closed : List ℕ) (blocks : List (Option X)) → length (without blocks closed) ≡ length blocks
length-without [] blocks = refl
length-without (n ∷ ns) blocks = length-without ns (slice_set blocks n None) ∙ length-set blocks n None

-- as many blocks fewer as numbers are closed
pub count-closed : {X : Type 0} (closed : List ℕ) (blocks : List (Option X)) → AllPairs (λ m n. m ≢ n) closed → ((n : ℕ) → Contains closed n → IsSome (block_at blocks n)) → length (blocks_in (without blocks closed)) + length closed ≡ length (blocks_in blocks)
count-closed [] blocks distinct named = omega arith
count-closed {X} (n ∷ ns) blocks distinct named =
    let fewer : List (Option X) = slice_set blocks n None in
    let rest = count-closed ns fewer (AllPairs-rest (λ m n. m ≢ n) n ns distinct)
    (λ m c. rw (get_or-set_other blocks n m None None (λ e. AllPairs-first (λ m n. m ≢ n) n ns distinct m c (sym e))) (named m (Contains-tail n ns m c))) in
    let one : length (blocks_in fewer) + 1 ≡ length (blocks_in blocks) = go (block_at blocks n) refl (named n (Contains-head n ns)) in
    omega arith
  where
    go : (o : Option X) → block_at blocks n ≡ o → IsSome (block_at blocks n) → length (blocks_in (slice_set blocks n None)) + 1 ≡ length (blocks_in blocks)
    go None e some = absurd (let no = rw e at some in cc)
    go (Some x) e some = let same = length_permutation (blocks_in blocks) (x ∷ blocks_in (slice_set blocks n None)) (taken-from_set blocks n x e) in omega arith

pub count-within : {X : Type 0} (blocks : List (Option X)) → length (blocks_in blocks) ≤ length blocks
count-within [] = omega arith
count-within (None ∷ bs) = let rest = count-within bs in omega arith
count-within (Some x ∷ bs) = let rest = count-within bs in omega arith
