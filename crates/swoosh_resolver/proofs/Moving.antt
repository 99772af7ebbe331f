-- Places in one index that become places in another.
use Rattle.std.proofs.Common.{◌≡◌, ℕ, zero, suc, ◌<◌, List, [], ◌∷◌, ◌++◌, Some, length, get_or, take, drop, map, refl, sym, ◌∙◌, ap, subst, arith}
use Rattle.std.specs.Prelude.{Contains, IsSome, slice_get, slice_index}
use Rattle.std.specs.Map.{keys_of}
use Rattle.merge_laws.proofs.Places.{Contains-head, Contains-tail}
use Rattle.feature_index.specs.Postings.{Posting, key_at}
use Rattle.swoosh_resolver.specs.Tables.{Entry, AreKeys, ArePlaced, HasOwn, IsOnBase, IsPlaced, at_rows, keys_at, standings_of}
use Rattle.swoosh_resolver.proofs.Placing.{some-key}

-- what is not changed yet stands where it stood
pub over-at : (f : ℕ → ℕ) (xs : List ℕ) (i : ℕ) → i < length xs → get_or (map f (take i xs) ++ drop i xs) i 0 ≡ get_or xs i 0
over-at f [] i h = absurd (omega arith)
over-at f (x ∷ xs) zero h = refl
over-at f (x ∷ xs) (suc i) h = over-at f xs i (omega arith)

pub values-moved : {R : Type 0} (rows : List ℕ) (entries : List (Entry R ℕ)) → standings_of (map (at_rows rows) entries) ≡ standings_of entries
values-moved rows [] = refl
values-moved rows (e ∷ es) = ap (λ vs. (e.value, e.base) ∷ vs) (values-moved rows es)

-- and so do the values of which a fact holds
pub based-moved : {R K : Type 0} {has_key : R → K → Type 0} {merge : R → R → R} (rows : List ℕ) (entries : List (Entry R ℕ)) → ((e : Entry R ℕ) → Contains entries e → IsOnBase has_key merge e.value e.base)
    → (e : Entry R ℕ) → Contains (map (at_rows rows) entries) e → IsOnBase has_key merge e.value e.base
based-moved rows [] based e (i, il, is) = absurd (omega arith)
based-moved {R} {K} {has_key} {merge} rows (x ∷ xs) based e (zero, il, is) = subst (λ (f : Entry R ℕ). IsOnBase has_key merge f.value f.base) is (based x (Contains-head x xs))
based-moved {R} {K} {has_key} {merge} rows (x ∷ xs) based e (suc i, il, is) = based-moved {has_key = has_key} {merge = merge} rows xs (λ f c. based f (Contains-tail x xs f c)) e (i, omega arith, is)

module _ {K : Type 0} (new : List (K × Posting)) where
  -- the row of a key, in its new place
  row-moved : (keys : List K) (rows : List ℕ) → map (key_at new) rows ≡ map Some keys → (place : ℕ) (k : K) → slice_get keys place ≡ Some k → (place < length rows) × (key_at new (slice_index rows place) ≡ Some k)
  row-moved [] rows e place k h = absurd cc
  row-moved (x ∷ xs) [] e place k h = absurd cc
  row-moved (x ∷ xs) (r ∷ rs) e zero k h = let here : key_at new r ≡ Some x = cc in (omega arith, here ∙ h)
  row-moved (x ∷ xs) (r ∷ rs) e (suc n) k h =
      let rest : map (key_at new) rs ≡ map Some xs = cc in
      let (less, is) = row-moved xs rs rest n k h in
      (omega arith, is)

  module _ (table : List (K × Posting)) (rows : List ℕ) (are : map (key_at new) rows ≡ map Some (keys_of table)) where
    pub row-within : (place : ℕ) → IsSome (key_at table place) → place < length rows
    row-within place h = let (k, here) = some-key (key_at table place) h in (row-moved (keys_of table) rows are place k here).0

    keys-moved : (places : List ℕ) → ((place : ℕ) → Contains places place → IsSome (key_at table place)) → keys_at new (map (λ place. slice_index rows place) places) ≡ keys_at table places
    keys-moved [] some = refl
    keys-moved (p ∷ ps) some =
        let (k, here) = some-key (key_at table p) (some p (Contains-head p ps)) in
        let (less, there) = row-moved (keys_of table) rows are p k here in
        let rest = keys-moved ps (λ q c. some q (Contains-tail p ps q c)) in
        rw (here, there, rest) refl

    rows-moved : (places : List ℕ) → ((place : ℕ) → Contains places place → IsSome (key_at table place)) → (q : ℕ) → Contains (map (λ place. slice_index rows place) places) q → IsSome (key_at new q)
    rows-moved [] some q (i, il, is) = absurd (omega arith)
    rows-moved (p ∷ ps) some q (zero, il, is) =
        let (k, here) = some-key (key_at table p) (some p (Contains-head p ps)) in
        let (less, there) = row-moved (keys_of table) rows are p k here in
        subst (λ n. IsSome (key_at new n)) is (rw there refl)
    rows-moved (p ∷ ps) some q (suc i, il, is) = rows-moved ps (λ q c. some q (Contains-tail p ps q c)) q (i, omega arith, is)

    placed-moved : {is_key : K → Type 0} (places : List ℕ) → IsPlaced is_key table places → IsPlaced is_key new (map (λ place. slice_index rows place) places)
    placed-moved {is_key} places placed = record {
      rows = rows-moved places placed.rows;
      keys = subst (AreKeys is_key) (sym (keys-moved places placed.rows)) placed.keys;
    }

    pub all-moved : {R : Type 0} (has_key : R → K → Type 0) (entries : List (Entry R ℕ)) → ArePlaced (HasOwn has_key) table entries → ArePlaced (HasOwn has_key) new (map (at_rows rows) entries)
    all-moved has_key [] placed e (i, il, is) = absurd (omega arith)
    all-moved {R} has_key (x ∷ xs) placed e (zero, il, is) = subst (λ (f : Entry R ℕ). IsPlaced (HasOwn has_key f) new f.keys) is (placed-moved x.keys (placed x (Contains-head x xs)))
    all-moved {R} has_key (x ∷ xs) placed e (suc i, il, is) = all-moved has_key xs (λ f c. placed f (Contains-tail x xs f c)) e (i, omega arith, is)
