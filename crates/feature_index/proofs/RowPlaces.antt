-- The row at a place, and what stands under its key.
use Rattle.std.proofs.Common.{◌≡◌, ℕ, zero, suc, ◌+◌, ◌<◌, Bool, true, false, cond, not, if◌then◌else◌, List, [], ◌∷◌, None, Some, Result, Ok, Err, length, slice_get, refl, sym, ◌∙◌, ap, subst, arith}
use Rattle.std.specs.Prelude.{unwrap_or, IsSome, OnOk}
use Rattle.std.specs.Cmp.{IsEquivalence}
use Rattle.std.specs.Map.{keys_of, lookup}
use Rattle.std.specs.List.{position_or_len}
use Rattle.indexmap.specs.IndexMap.{IndexMap, IsUnique, Updates, insert_entry, set_value_at}
use Rattle.indexmap.proofs.CallerLemmas.{keys-with_value_at, updates-with_value_at}
use Rattle.feature_index.specs.Postings.{Posting, KeepsRows, key_at, posting_of}

-- what stands under a key that has no row
abbrev none : Posting
none = record { numbers = []; spare = 0 }

-- where a key stands, there is a row
pub within-from_key : {K : Type 0} (entries : List (K × Posting)) (place : ℕ) → IsSome (key_at entries place) → place < length entries
within-from_key [] place h = absurd cc
within-from_key (e ∷ es) zero h = omega arith
within-from_key (e ∷ es) (suc n) h = let less = within-from_key es n h in omega arith

-- the row at a place has its key there
pub key-at : {K : Type 0} (entries : List (K × Posting)) (place : ℕ) (k : K) (p : Posting) → slice_get entries place ≡ Some (k, p) → key_at entries place ≡ Some k
key-at [] place k p is = absurd cc
key-at (e ∷ es) zero k p is = let one : e ≡ (k, p) = cc in ap (λ r. Some r.0) one
key-at (e ∷ es) (suc n) k p is = key-at es n k p is

-- the key at a place is one
pub one-key : {K : Type 0} (entries : List (K × Posting)) (place : ℕ) (j k : K) (p : Posting) → slice_get entries place ≡ Some (j, p) → key_at entries place ≡ Some k → j ≡ k
one-key entries place j k p is at = let here = key-at entries place j p is in cc

-- a row that is written as it is
written-same : {K : Type 0} (entries : List (K × Posting)) (place : ℕ) (k : K) (p : Posting) → slice_get entries place ≡ Some (k, p) → set_value_at entries place p ≡ entries
written-same [] place k p is = refl
written-same (e ∷ es) zero k p is = let one : e ≡ (k, p) = cc in ap (λ r. (e.0, r.1) ∷ es) (sym one)
written-same (e ∷ es) (suc n) k p is = ap (λ xs. e ∷ xs) (written-same es n k p is)

module _ {K S : Type 0} {eq : K → K → Bool} (laws : IsEquivalence eq) (m : IndexMap K Posting S) (unique : IsUnique eq m) (place : ℕ) (k : K) (p : Posting) (is : slice_get m.entries place ≡ Some (k, p)) where
  -- under the key stands what the row at its place has
  posting-at : posting_of eq m.entries k ≡ p
  posting-at = ap (λ es. posting_of eq es k) (sym (written-same m.entries place k p is)) ∙ ap (λ o. unwrap_or o none) (updates-with_value_at m place p laws unique k p is).1

  -- and once the row is written, what is written
  posting-written : (q : Posting) → posting_of eq (set_value_at m.entries place q) k ≡ q
  posting-written q = ap (λ o. unwrap_or o none) (updates-with_value_at m place q laws unique k p is).1

  -- what holds of what stands under the key holds of the row
  pub row-read : (P : Posting → Type 0) → ((j : K) → key_at m.entries place ≡ Some j → P (posting_of eq m.entries j)) → P p
  row-read P h = subst P posting-at (h k (key-at m.entries place k p is))

  -- what holds of the row before and after it is written holds of what stands under its key
  pub row-written : (P : Posting → Posting → Type 0) (q : Posting) → P p q → (j : K) → key_at m.entries place ≡ Some j → P (posting_of eq m.entries j) (posting_of eq (set_value_at m.entries place q) j)
  row-written P q h j at =
      subst (λ j. P (posting_of eq m.entries j) (posting_of eq (set_value_at m.entries place q) j)) (one-key m.entries place k j p is at)
      (subst (λ x. P x (posting_of eq (set_value_at m.entries place q) k)) (sym posting-at) (subst (P p) (sym (posting-written q)) h))

  -- under all other keys stands what stood there
  pub others-written : (q : Posting) (i j : K) → key_at m.entries place ≡ Some i → eq i j ≡ false → posting_of eq (set_value_at m.entries place q) j ≡ posting_of eq m.entries j
  others-written q i j at apart =
      let apart' : eq k j ≡ false = subst (λ z. eq z j ≡ false) (sym (one-key m.entries place k i p is at)) apart in
      ap (λ o. unwrap_or o none) ((updates-with_value_at m place q laws unique k p is).2 j apart')

  -- what holds of the row before and after it is written, and of what stays, holds of what stands under each key
  pub each-written : (P : Posting → Posting → Type 0) (q : Posting) → P p q → ((x : Posting) → P x x) → (j : K) → P (posting_of eq m.entries j) (posting_of eq (set_value_at m.entries place q) j)
  each-written P q h stays j =
      elim (eq k j) as (λ b. eq k j ≡ b → P (posting_of eq m.entries j) (posting_of eq (set_value_at m.entries place q) j)) [
        | true ↦ λ e.
            (let old : posting_of eq m.entries j ≡ p =
            ap (λ es. posting_of eq es j) (sym (written-same m.entries place k p is)) ∙ ap (λ o. unwrap_or o none) ((updates-with_value_at m place p laws unique k p is).0 j)
            ∙ ap (λ b. unwrap_or (cond b (Some p) (lookup (eq j) m.entries)) none) e in
            let new : posting_of eq (set_value_at m.entries place q) j ≡ q =
            ap (λ o. unwrap_or o none) ((updates-with_value_at m place q laws unique k p is).0 j) ∙ ap (λ b. unwrap_or (cond b (Some q) (lookup (eq j) m.entries)) none) e in
            subst (λ x. P x (posting_of eq (set_value_at m.entries place q) j)) (sym old) (subst (P p) (sym new) h))
        | false ↦ λ e.
            (let same : posting_of eq (set_value_at m.entries place q) j ≡ posting_of eq m.entries j = ap (λ o. unwrap_or o none) ((updates-with_value_at m place q laws unique k p is).2 j e) in
            subst (P (posting_of eq m.entries j)) (sym same) (stays (posting_of eq m.entries j)))
      ] refl

-- a write at a place leaves each row there
pub rows-written : {K S : Type 0} (m : IndexMap K Posting S) (place : ℕ) (q : Posting) → KeepsRows m.entries (set_value_at m.entries place q)
rows-written m place q i k at = ap (λ ks. slice_get ks i) (keys-with_value_at m place q) ∙ at

pub OnOk-then : {A E : Type 0} (r : Result A E) (P Q : Type 0) → (P → Q) → OnOk r P → OnOk r Q
OnOk-then (Ok x) P Q f h = f h
OnOk-then (Err e) P Q f h = tt

module _ {K : Type 0} {eq : K → K → Bool} (laws : IsEquivalence eq) (k : K) where
  -- where a key is put, there stands a key that is equal to it
  pub key-put : (entries : List (K × Posting)) (v : Posting) → (x : K) × (key_at (insert_entry eq entries k v) (position_or_len (eq k) (keys_of entries)) ≡ Some x) × (eq k x ≡ true)
  key-put [] v = (k, refl, laws.refl k)
  key-put (e ∷ es) v =
      let later = position_or_len (eq k) (keys_of es) in
      elim (eq k e.0) as (λ b. eq k e.0 ≡ b → (x : K) × (key_at (insert_entry eq (e ∷ es) k v) (position_or_len (eq k) (keys_of (e ∷ es))) ≡ Some x) × (eq k x ≡ true)) [
        | true ↦ λ h.
            (let place : position_or_len (eq k) (keys_of (e ∷ es)) ≡ 0 = ap (λ b. cond (not b) (1 + later) 0) h in
            (e.0, subst (λ n. key_at (insert_entry eq (e ∷ es) k v) n ≡ Some e.0) (sym place) (ap (λ b. key_at (if b then (e.0, v) ∷ es else e ∷ insert_entry eq es k v) 0) h), h))
        | false ↦ λ h.
            (let (x, here, same) = key-put es v in
            let place : position_or_len (eq k) (keys_of (e ∷ es)) ≡ suc later = ap (λ b. cond (not b) (1 + later) 0) h ∙ omega arith in
            (x, subst (λ n. key_at (insert_entry eq (e ∷ es) k v) n ≡ Some x) (sym place) (ap (λ b. key_at (if b then (e.0, v) ∷ es else e ∷ insert_entry eq es k v) (suc later)) h ∙ here), same))
      ] refl

  -- and each row that there was stays at its place
  pub rows-put : (entries : List (K × Posting)) (v : Posting) → KeepsRows entries (insert_entry eq entries k v)
  rows-put [] v place x here = absurd cc
  rows-put (e ∷ es) v zero x here =
      elim (eq k e.0) as (λ b. key_at (if b then (e.0, v) ∷ es else e ∷ insert_entry eq es k v) 0 ≡ Some x) [
        | true ↦ here
        | false ↦ here
      ]
  rows-put (e ∷ es) v (suc n) x here =
      elim (eq k e.0) as (λ b. key_at (if b then (e.0, v) ∷ es else e ∷ insert_entry eq es k v) (suc n) ≡ Some x) [
        | true ↦ here
        | false ↦ rows-put es v n x here
      ]

  -- a key that is equal finds the same
  found-same : (j : K) → eq k j ≡ true → (entries : List (K × Posting)) → posting_of eq entries j ≡ posting_of eq entries k
  found-same j same entries = ap (λ t. unwrap_or (lookup t entries) none) (λ i z. sym (laws.congr k j z same) i)

  module _ {S : Type 0} (m n : IndexMap K Posting S) (place : ℕ) (index : place ≡ position_or_len (eq k) (keys_of m.entries))
      (entries : n.entries ≡ insert_entry eq m.entries k none) (up : Updates eq m n k (Some none)) where
    -- the place of a key that was put
    pub row-put : (x : K) × (key_at n.entries place ≡ Some x) × (eq k x ≡ true)
    row-put =
        let (x, here, same) = key-put m.entries none in
        (x, (λ i. key_at (entries i) (index i)) ∙ here, same)

    pub rows-kept : KeepsRows m.entries n.entries
    rows-kept = subst (KeepsRows m.entries) (sym entries) (rows-put m.entries none)

    -- a key that was not there has no numbers
    pub posting-new : lookup (eq k) m.entries ≡ None → (j : K) → posting_of eq n.entries j ≡ posting_of eq m.entries j
    posting-new absent j =
        elim (eq k j) as (λ b. eq k j ≡ b → posting_of eq n.entries j ≡ posting_of eq m.entries j) [
          | true ↦ λ h.
              ap (λ o. unwrap_or o none) (up.0 j) ∙ ap (λ b. unwrap_or (cond b (Some none) (lookup (eq j) m.entries)) none) h
              ∙ sym (found-same j h m.entries ∙ ap (λ o. unwrap_or o none) absent)
          | false ↦ λ h. ap (λ o. unwrap_or o none) (up.2 j h)
        ] refl

    -- the row of a key that was there is put back
    pub posting-back : (r : Posting) → lookup (eq k) m.entries ≡ Some r → IsUnique eq n → (x : K) (p : Posting) → slice_get n.entries place ≡ Some (x, p)
        → (j : K) → posting_of eq (set_value_at n.entries place r) j ≡ posting_of eq m.entries j
    posting-back r there unique x p is j =
        let (y, here, same) = row-put in
        let one : x ≡ y = one-key n.entries place x y p is here in
        let same' : eq k x ≡ true = subst (λ z. eq k z ≡ true) (sym one) same in
        let up' = updates-with_value_at n place r laws unique x p is in
        elim (eq x j) as (λ b. eq x j ≡ b → posting_of eq (set_value_at n.entries place r) j ≡ posting_of eq m.entries j) [
          | true ↦ λ h.
              ap (λ o. unwrap_or o none) (up'.0 j) ∙ ap (λ b. unwrap_or (cond b (Some r) (lookup (eq j) n.entries)) none) h
              ∙ sym (found-same j (laws.congr k x j same' ∙ h) m.entries ∙ ap (λ o. unwrap_or o none) there)
          | false ↦ λ h. ap (λ o. unwrap_or o none) (up'.2 j h) ∙ ap (λ o. unwrap_or o none) (up.2 j (laws.congr k x j same' ∙ h))
        ] refl
