-- The keys of the rows at places, and the places of the keys of a value.
use Rattle.std.proofs.Common.{◌≡◌, ◌≢◌, ℕ, zero, suc, ◌+◌, ◌<◌, ◌≤◌, Bool, cond, List, [], ◌∷◌, ◌++◌, Option, None, Some, length, get_or, take, drop, map, refl, sym, ◌∙◌, ap, subst, append_assoc, inl, inr, arith}
use Rattle.std.specs.Prelude.{◌↔◌, ◌⊎◌, AllPairs, Contains, IsSome, count_by, filter_map}
use Rattle.std.proofs.lemmas.List.{take_more, take-append-drop}
use Rattle.std.proofs.lemmas.List.Elements.{Contains-append_right, Contains-get_or, filter_map-append}
use Rattle.std.proofs.lemmas.List.Sums.{sum_by-append}
use Rattle.merge_laws.proofs.Places.{Contains-head, Contains-tail}
use Rattle.feature_index.specs.Postings.{Posting, KeepsRows, key_at, numbers_of}
use Rattle.swoosh_resolver.specs.Tables.{Entry, AreBlocks, AreKeys, IsPlaced, keys_at}
use Rattle.swoosh_resolver.specs.Changes.{keys_in}
use Rattle.swoosh_resolver.proofs.Opening.{reposted}
use Rattle.swoosh_resolver.proofs.Places.{not-before}

-- a row that is there has a key
pub some-key : {K : Type 0} (o : Option K) → IsSome o → (k : K) × (o ≡ Some k)
some-key None h = absurd cc
some-key (Some k) h = (k, refl)

-- in a list without repeats the middle is not in front
front : {X : Type 0} (A B : List X) → take (length A) (A ++ B) ≡ A
front [] B = refl
front (a ∷ A) B = ap (λ xs. a ∷ xs) (front A B)

middle : {X : Type 0} (A B : List X) (x d : X) → get_or (A ++ x ∷ B) (length A) d ≡ x
middle [] B x d = refl
middle (a ∷ A) B x d = middle A B x d

middle-within : {X : Type 0} (A B : List X) (x : X) → length A < length (A ++ x ∷ B)
middle-within [] B x = omega arith
middle-within (a ∷ A) B x = let less = middle-within A B x in omega arith

middle-new : {X : Type 0} (A B : List X) (x : X) → AllPairs (λ x y. x ≢ y) (A ++ x ∷ B) → Contains A x → ⊥
middle-new A B x once there =
    not-before (A ++ x ∷ B) once (length A) x (middle-within A B x) (sym (middle A B x x)) (subst (λ l. Contains l x) (sym (front A (x ∷ B))) there)

-- one key more
pub counted-push : {K : Type 0} (p : K → Bool) (keys : List K) (k : K) → count_by p (keys ++ k ∷ []) ≡ count_by p keys + cond (p k) 1 0
counted-push p keys k = let raw = sum_by-append (λ x. cond (p x) 1 0) keys (k ∷ []) in omega arith

counted-middle : {K : Type 0} (p : K → Bool) (A B : List K) (k : K) → count_by p A + cond (p k) 1 0 ≤ count_by p (A ++ k ∷ B)
counted-middle p A B k =
    let one = sum_by-append (λ x. cond (p x) 1 0) A ((k ∷ []) ++ B) in
    let two = sum_by-append (λ x. cond (p x) 1 0) (k ∷ []) B in
    omega arith

module _ {K : Type 0} (postings : List (K × Posting)) (places : List ℕ) where
  -- the key of the row at the i-th of the places
  pub record IsKeyOf (i : ℕ) (k : K) : Type 0 where
    pub at : key_at postings (get_or places i 0) ≡ Some k
    pub longer : keys_at postings (take (i + 1) places) ≡ keys_at postings (take i places) ++ k ∷ []
    pub among : Contains (keys_at postings places) k
    pub new : AllPairs (λ x y. x ≢ y) (keys_at postings places) → Contains (keys_at postings (take i places)) k → ⊥
    pub counted : (p : K → Bool) → count_by p (keys_at postings (take i places)) + cond (p k) 1 0 ≤ count_by p (keys_at postings places)

  pub key-of : ((place : ℕ) → Contains places place → IsSome (key_at postings place)) → (i : ℕ) → i < length places → (k : K) × IsKeyOf i k
  key-of rows i h =
      let place = get_or places i 0 in
      let (k, at) = some-key (key_at postings place) (rows place (Contains-get_or places i 0 h)) in
      let before = keys_at postings (take i places) in
      let after = keys_at postings (drop (i + 1) places) in
      let longer : keys_at postings (take (i + 1) places) ≡ before ++ k ∷ [] =
      ap (keys_at postings) (take_more places i 0 h) ∙ filter_map-append (key_at postings) (take i places) (place ∷ [])
      ∙ ap (λ o. before ++ filter_map (λ (n : ℕ). o) (place ∷ [])) at in
      let all : keys_at postings places ≡ before ++ k ∷ after =
      ap (keys_at postings) (sym (take-append-drop (i + 1) places)) ∙ filter_map-append (key_at postings) (take (i + 1) places) (drop (i + 1) places)
      ∙ ap (λ ks. ks ++ after) longer ∙ append_assoc before (k ∷ []) after in (
        k,
        record {
          at = at;
          longer = longer;
          among = subst (λ ks. Contains ks k) (sym all) (Contains-append_right before (k ∷ after) k (Contains-head k after));
          new = λ once there. middle-new before after k (subst (AllPairs (λ x y. x ≢ y)) all once) there;
          counted = λ p. subst (λ ks. count_by p before + cond (p k) 1 0 ≤ count_by p ks) (sym all) (counted-middle p before after k);
        },
      )

module _ {K : Type 0} (old new : List (K × Posting)) (stay : KeepsRows old new) where
  -- rows that stay keep their keys
  pub keys-stay : (places : List ℕ) (keys : List K) → map (key_at old) places ≡ map Some keys → map (key_at new) places ≡ map Some keys
  keys-stay [] [] e = refl
  keys-stay [] (k ∷ ks) e = absurd cc
  keys-stay (p ∷ ps) [] e = absurd cc
  keys-stay (p ∷ ps) (k ∷ ks) e =
      let at : key_at old p ≡ Some k = cc in
      let rest : map (key_at old) ps ≡ map Some ks = cc in
      (λ i. stay p k at i ∷ keys-stay ps ks rest i)

  pub row-stays : (place : ℕ) → IsSome (key_at old place) → IsSome (key_at new place)
  row-stays place h = let (k, at) = some-key (key_at old place) h in let at' = stay place k at in rw at' refl

  pub keys_at-stay : (places : List ℕ) → ((place : ℕ) → Contains places place → IsSome (key_at old place)) → keys_at new places ≡ keys_at old places
  keys_at-stay [] rows = refl
  keys_at-stay (p ∷ ps) rows =
      let (k, at) = some-key (key_at old p) (rows p (Contains-head p ps)) in
      let at' = stay p k at in
      let rest = keys_at-stay ps (λ q c. rows q (Contains-tail p ps q c)) in
      rw (at, at', rest) refl

  pub placed-stays : {is_key : K → Type 0} (places : List ℕ) → IsPlaced is_key old places → IsPlaced is_key new places
  placed-stays {is_key} places placed = record {
    rows = λ place c. row-stays place (placed.rows place c);
    keys = subst (AreKeys is_key) (sym (keys_at-stay places placed.rows)) placed.keys;
  }

  pub keys_in-stay : (lists : List (List ℕ)) → ((places : List ℕ) → Contains lists places → (place : ℕ) → Contains places place → IsSome (key_at old place)) → keys_in new lists ≡ keys_in old lists
  keys_in-stay [] rows = refl
  keys_in-stay (l ∷ ls) rows = (λ i. keys_at-stay l (rows l (Contains-head l ls)) i ++ keys_in-stay ls (λ m c. rows m (Contains-tail l ls m c)) i)

module _ {K : Type 0} (postings : List (K × Posting)) where
  -- the keys at the places are these keys
  pub keys_at-are : (places : List ℕ) (keys : List K) → map (key_at postings) places ≡ map Some keys → keys_at postings places ≡ keys
  keys_at-are [] [] e = refl
  keys_at-are [] (k ∷ ks) e = absurd cc
  keys_at-are (p ∷ ps) [] e = absurd cc
  keys_at-are (p ∷ ps) (k ∷ ks) e =
      let at : key_at postings p ≡ Some k = cc in
      let rest : map (key_at postings) ps ≡ map Some ks = cc in
      rw (at, keys_at-are ps ks rest) refl

  pub rows-are : (places : List ℕ) (keys : List K) → map (key_at postings) places ≡ map Some keys → (place : ℕ) → Contains places place → IsSome (key_at postings place)
  rows-are [] keys e place (i, il, is) = absurd (omega arith)
  rows-are (p ∷ ps) [] e place c = absurd cc
  rows-are (p ∷ ps) (k ∷ ks) e place (zero, il, is) = let at : key_at postings p ≡ Some k = cc in rw (← is, at) refl
  rows-are (p ∷ ps) (k ∷ ks) e place (suc i, il, is) = let rest : map (key_at postings) ps ≡ map Some ks = cc in rows-are ps ks rest place (i, omega arith, is)

  pub placed-are : {is_key : K → Type 0} (places : List ℕ) (keys : List K) → map (key_at postings) places ≡ map Some keys → AreKeys is_key keys → IsPlaced is_key postings places
  placed-are {is_key} places keys e are = record {
    rows = rows-are places keys e;
    keys = subst (AreKeys is_key) (sym (keys_at-are places keys e)) are;
  }

module _ {K : Type 0} {is_key : K → Type 0} (eq : K → K → Bool) (old new : List (K × Posting)) (places : List ℕ) (number : ℕ) (placed : IsPlaced is_key old places) where
  -- what stands under the keys at the places stands under the keys of which these are
  pub gained-keys : ((k : K) (n : ℕ) → Contains (numbers_of eq new k) n ↔ (Contains (numbers_of eq old k) n ⊎ (Contains (keys_at old places) k × (n ≡ number))))
      → (k : K) (n : ℕ) → Contains (numbers_of eq new k) n ↔ (Contains (numbers_of eq old k) n ⊎ (is_key k × (n ≡ number)))
  gained-keys changed k n = (
    λ c. elim ((changed k n).0 c) as (λ _. Contains (numbers_of eq old k) n ⊎ (is_key k × (n ≡ number))) [
      | inl before ↦ inl before
      | inr (at, e) ↦ inr ((placed.keys.members k).0 at, e)
    ],
    λ w. (changed k n).1 (elim w as (λ _. Contains (numbers_of eq old k) n ⊎ (Contains (keys_at old places) k × (n ≡ number))) [
      | inl before ↦ inl before
      | inr (is, e) ↦ inr ((placed.keys.members k).1 is, e)
    ]),
  )

  pub lost-keys : ((k : K) (n : ℕ) → Contains (numbers_of eq new k) n ↔ (Contains (numbers_of eq old k) n × (Contains (keys_at old places) k → n ≢ number)))
      → (k : K) (n : ℕ) → Contains (numbers_of eq new k) n ↔ (Contains (numbers_of eq old k) n × (is_key k → n ≢ number))
  lost-keys changed k n = (
    λ c. (let (before, ne) = (changed k n).0 c in (before, λ is. ne ((placed.keys.members k).1 is))),
    λ (before, ne). (changed k n).1 (before, λ at. ne ((placed.keys.members k).0 at)),
  )

  pub moved-keys : (to : ℕ) → ((k : K) (n : ℕ) → Contains (numbers_of eq new k) n ↔ ((Contains (numbers_of eq old k) n × (Contains (keys_at old places) k → n ≢ number)) ⊎ (Contains (keys_at old places) k × (n ≡ to))))
      → (k : K) (n : ℕ) → Contains (numbers_of eq new k) n ↔ ((Contains (numbers_of eq old k) n × (is_key k → n ≢ number)) ⊎ (is_key k × (n ≡ to)))
  moved-keys to changed k n = (
    λ c. elim ((changed k n).0 c) as (λ _. (Contains (numbers_of eq old k) n × (is_key k → n ≢ number)) ⊎ (is_key k × (n ≡ to))) [
      | inl (before, ne) ↦ inl (before, λ is. ne ((placed.keys.members k).1 is))
      | inr (at, e) ↦ inr ((placed.keys.members k).0 at, e)
    ],
    λ w. (changed k n).1 (elim w as (λ _. (Contains (numbers_of eq old k) n × (Contains (keys_at old places) k → n ≢ number)) ⊎ (Contains (keys_at old places) k × (n ≡ to))) [
      | inl (before, ne) ↦ inl (before, λ at. ne ((placed.keys.members k).0 at))
      | inr (is, e) ↦ inr ((placed.keys.members k).1 is, e)
    ]),
  )

-- blocks stay what they are where the index keeps its rows and its numbers
pub blocks-stay : {R K : Type 0} {match : R → R → Bool} {eq : K → K → Bool} {has_key : R → K → Type 0} (blocks : List (Option (Entry R ℕ))) (old new : List (K × Posting)) (count : ℕ)
    → ((k : K) → numbers_of eq new k ≡ numbers_of eq old k) → KeepsRows old new → AreBlocks match eq has_key blocks old count → AreBlocks match eq has_key blocks new count
blocks-stay blocks old new count same stay are = record {
  apart = are.apart;
  posted = reposted blocks old new same are.posted;
  placed = λ e there. placed-stays old new stay e.keys (are.placed e there);
  counted = are.counted;
}
