-- Values in a row, and the index of their keys, when one is put last or taken out.
use Rattle.std.proofs.Common.{◌≡◌, ℕ, zero, suc, ◌-◌, ◌<◌, ◌≤◌, Bool, true, List, [], ◌∷◌, ◌++◌, Option, None, Some, length, get_or, take, refl, sym, ◌∙◌, ap, subst, inl, inr, arith}
use Rattle.std.specs.Prelude.{◌↔◌, ◌⊎◌, Contains, map, slice_set, swap_remove}
use Rattle.std.proofs.lemmas.List.{map-append, length-map, length-set, get_or_default, get_or-set_same, get_or-set_other}
use Rattle.std.proofs.lemmas.List.Sorted.{IsPermutation-sym, IsPermutation-swap_remove, Contains-permutation}
use Rattle.merge_laws.proofs.Places.{Contains-tail}
use Rattle.feature_index.specs.Postings.{Posting, numbers_of}
use Rattle.swoosh_resolver.specs.Tables.{ArePosted, AreListed, block_at, blocks_in}
use Rattle.swoosh_resolver.specs.Insertions.{passes}
use Rattle.swoosh_resolver.proofs.Opening.{put_block, posted-put, put-past, put-within, one_or_not}

module _ {X : Type 0} where
  -- the value at a place, and none past them
  pub listed-at : (xs : List X) (n : ℕ) (x : X) → n < length xs → x ≡ get_or xs n x → block_at (map Some xs) n ≡ Some x
  listed-at [] n x h e = absurd (omega arith)
  listed-at (y ∷ ys) zero x h e = ap Some (sym e)
  listed-at (y ∷ ys) (suc n) x h e = listed-at ys n x (omega arith) e

  pub listed-past : (xs : List X) (n : ℕ) → length xs ≤ n → block_at (map Some xs) n ≡ None
  listed-past [] n h = refl
  listed-past (y ∷ ys) zero h = absurd (omega arith)
  listed-past (y ∷ ys) (suc n) h = listed-past ys n (omega arith)

  pub there-from_listed : (xs : List X) (n : ℕ) (x : X) → block_at (map Some xs) n ≡ Some x → Contains xs x
  there-from_listed [] n x e = absurd cc
  there-from_listed (y ∷ ys) zero x e = (zero, omega arith, cc)
  there-from_listed (y ∷ ys) (suc n) x e = Contains-tail y ys x (there-from_listed ys n x e)

  -- all values are blocks
  pub blocks-listed : (xs : List X) → blocks_in (map Some xs) ≡ xs
  blocks-listed [] = refl
  blocks-listed (x ∷ xs) = ap (λ ys. x ∷ ys) (blocks-listed xs)

  -- where a test passes, a value stands that passes it
  pub passing-listed : (test : X → Bool) (xs : List X) (n : ℕ) → passes test (block_at (map Some xs) n) ≡ true → (n < length xs) × ((d : X) → test (get_or xs n d) ≡ true)
  passing-listed test [] n h = absurd cc
  passing-listed test (x ∷ xs) zero h = (omega arith, λ d. h)
  passing-listed test (x ∷ xs) (suc n) h = let (below, is) = passing-listed test xs n h in (omega arith, is)

  shortened : (m : ℕ) (xs : List X) → length xs ≡ suc m → (n : ℕ) → block_at (slice_set (map Some xs) m None) n ≡ block_at (map Some (take m xs)) n
  shortened m [] e n = absurd (omega arith)
  shortened zero (x ∷ []) e zero = refl
  shortened zero (x ∷ []) e (suc n) = refl
  shortened zero (x ∷ y ∷ ys) e n = absurd (omega arith)
  shortened (suc m) (x ∷ xs) e zero = refl
  shortened (suc m) (x ∷ xs) e (suc n) = shortened m xs (omega arith) n

  swapped-at : (m : ℕ) (xs : List X) (i : ℕ) (d : X) → length xs ≡ suc m → i < suc m → (n : ℕ)
      → block_at (slice_set (slice_set (map Some xs) i (Some (get_or xs m d))) m None) n ≡ block_at (map Some (take m (slice_set xs i (get_or xs m d)))) n
  swapped-at m [] i d e h n = absurd (omega arith)
  swapped-at zero (x ∷ []) zero d e h zero = refl
  swapped-at zero (x ∷ []) zero d e h (suc n) = refl
  swapped-at zero (x ∷ []) (suc i) d e h n = absurd (omega arith)
  swapped-at zero (x ∷ y ∷ ys) i d e h n = absurd (omega arith)
  swapped-at (suc m) (x ∷ xs) zero d e h zero = refl
  swapped-at (suc m) (x ∷ xs) zero d e h (suc n) = shortened m xs (omega arith) n
  swapped-at (suc m) (x ∷ xs) (suc i) d e h zero = refl
  swapped-at (suc m) (x ∷ xs) (suc i) d e h (suc n) = swapped-at m xs i d (omega arith) (omega arith) n

  module _ (L : List (Option X)) (m : ℕ) (x : X) (within : m < length L) where
    -- what is emptied last may have been written before
    emptied : (n : ℕ) → block_at (slice_set L m None) n ≡ block_at (slice_set (slice_set L m (Some x)) m None) n
    emptied n = elim (one_or_not n m) as (λ _. block_at (slice_set L m None) n ≡ block_at (slice_set (slice_set L m (Some x)) m None) n) [
      | inl same ↦ (let len = length-set L m (Some x) in
          rw same (get_or-set_same L m None None within ∙ sym (get_or-set_same (slice_set L m (Some x)) m None None (omega arith))))
      | inr ne ↦ get_or-set_other L m n None None ne ∙ sym (get_or-set_other (slice_set L m (Some x)) m n None None ne ∙ get_or-set_other L m n (Some x) None ne)
    ]

    -- and a place may be emptied before it is written
    rewritten : (i : ℕ) → i < m → (n : ℕ) → block_at (slice_set (slice_set (slice_set L i None) m None) i (Some x)) n ≡ block_at (slice_set (slice_set L i (Some x)) m None) n
    rewritten i im n =
        let one = length-set L i None in
        let two = length-set (slice_set L i None) m None in
        let three = length-set L i (Some x) in
        elim (one_or_not n i) as (λ _. block_at (slice_set (slice_set (slice_set L i None) m None) i (Some x)) n ≡ block_at (slice_set (slice_set L i (Some x)) m None) n) [
          | inl same ↦ rw same (get_or-set_same (slice_set (slice_set L i None) m None) i (Some x) None (omega arith)
              ∙ sym (get_or-set_other (slice_set L i (Some x)) m i None None (λ e. omega arith) ∙ get_or-set_same L i (Some x) None (omega arith)))
          | inr ne ↦ get_or-set_other (slice_set (slice_set L i None) m None) i n (Some x) None ne
              ∙ elim (one_or_not n m) as (λ _. block_at (slice_set (slice_set L i None) m None) n ≡ block_at (slice_set (slice_set L i (Some x)) m None) n) [
                | inl same ↦ rw same (get_or-set_same (slice_set L i None) m None None (omega arith) ∙ sym (get_or-set_same (slice_set L i (Some x)) m None None (omega arith)))
                | inr ne' ↦ get_or-set_other (slice_set L i None) m n None None ne' ∙ get_or-set_other L i n None None ne
                    ∙ sym (get_or-set_other (slice_set L i (Some x)) m n None None ne' ∙ get_or-set_other L i n (Some x) None ne)
              ]
        ]

module _ {X K : Type 0} {eq : K → K → Bool} {has_key : X → K → Type 0} where
  posted-same : (L M : List (Option X)) (p : List (K × Posting)) → ((n : ℕ) → block_at L n ≡ block_at M n) → ArePosted eq has_key L p → ArePosted eq has_key M p
  posted-same L M p same posted = record {
    stands = λ k n. subst (λ o. Contains (numbers_of eq p k) n ↔ ((e : X) × (o ≡ Some e) × has_key e k)) (same n) (posted.stands k n);
  }

  -- a value is put last
  pub listed-pushed : (xs : List X) (e : X) (old new : List (K × Posting)) → AreListed eq has_key xs old
      → ((k : K) (m : ℕ) → Contains (numbers_of eq new k) m ↔ (Contains (numbers_of eq old k) m ⊎ (has_key e k × (m ≡ length xs))))
      → AreListed eq has_key (xs ++ e ∷ []) new
  listed-pushed xs e old new listed changed =
      let len = length-map xs Some in
      let put' = posted-put (map Some xs) old listed new (length xs) e (listed-past xs (length xs) (omega arith)) (omega arith) changed in
      rw (map-append Some xs (e ∷ [])) (subst (λ L. ArePosted eq has_key L new) (put-past (map Some xs) (length xs) e (omega arith)) put')

  module _ (xs : List X) (i : ℕ) (d : X) (m : ℕ) (len : length xs ≡ suc m) where
    -- the last value is taken out
    pub unlisted-last : (p : List (K × Posting)) → i ≡ m → ArePosted eq has_key (slice_set (map Some xs) i None) p → AreListed eq has_key (swap_remove xs i d) p
    unlisted-last p same posted =
        let mapped : length (map {B = Option X} Some xs) ≡ length xs = length-map xs Some in
        let is : length xs - 1 ≡ m = omega arith in
        rw is (posted-same (slice_set (map Some xs) i None) _ p
        (λ n. subst (λ i. block_at (slice_set (map Some xs) i None) n ≡ block_at (map Some (take m (slice_set xs i (get_or xs m d)))) n) (sym same)
        (emptied (map Some xs) m (get_or xs m d) (omega arith) n ∙ swapped-at m xs m d len (omega arith) n))
        posted)

    -- another is taken out, and the last is put in its place
    pub unlisted-moved : (p : List (K × Posting)) → i < m → ArePosted eq has_key (put_block (slice_set (slice_set (map Some xs) i None) m None) i (get_or xs m d)) p → AreListed eq has_key (swap_remove xs i d) p
    unlisted-moved p less posted =
        let mapped : length (map {B = Option X} Some xs) ≡ length xs = length-map xs Some in
        let is : length xs - 1 ≡ m = omega arith in
        let one = length-set (map Some xs) i None in
        let two = length-set (slice_set (map Some xs) i None) m None in
        rw is (posted-same (slice_set (slice_set (slice_set (map Some xs) i None) m None) i (Some (get_or xs m d))) _ p
        (λ n. rewritten (map Some xs) m (get_or xs m d) (omega arith) i less n ∙ swapped-at m xs i d len (omega arith) n)
        (subst (λ L. ArePosted eq has_key L p) (put-within (slice_set (slice_set (map Some xs) i None) m None) i (get_or xs m d) (omega arith)) posted))

-- what is left once a value is taken out was there before
pub swapped-among : {X : Type 0} (xs : List X) (i : ℕ) (d x : X) → i < length xs → Contains (swap_remove xs i d) x → Contains xs x
swapped-among xs i d x within there =
    let y = get_or xs i d in
    let is : y ≡ get_or xs i y = get_or_default xs i d y within in
    let last : get_or xs (length xs - 1) d ≡ get_or xs (length xs - 1) y = get_or_default xs (length xs - 1) d y (omega arith) in
    let there' : Contains (swap_remove xs i y) x = subst (λ z. Contains (take (length xs - 1) (slice_set xs i z)) x) last there in
    Contains-permutation (y ∷ swap_remove xs i y) xs x (IsPermutation-sym xs (y ∷ swap_remove xs i y) (IsPermutation-swap_remove xs i y within is)) (Contains-tail y (swap_remove xs i y) x there')
