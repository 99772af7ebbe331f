-- A walk over works in order of their keys.
use Rattle.std.proofs.Common.{◌≡◌, ℕ, zero, suc, ◌+◌, Bool, true, false, cond, List, [], ◌∷◌, refl, sym, ap, ◌∙◌, length, arith}
use Rattle.std.specs.Prelude.{slice_get, find, unwrap_or}
use Rattle.std.specs.declared.option.Option.{Option}
use Rattle.std.specs.declared.option.Option.TheVariants.{Some, None}
use Rattle.std.specs.declared.cmp.Ordering.{Ordering}
use Rattle.std.specs.declared.cmp.Ordering.TheVariants.{Less, Equal, Greater}
use Rattle.std.specs.Ordering.{is_lt, is_eq, ordering_reverse}
use Rattle.std.specs.Cmp.{IsTotalOrder}
use Rattle.std.specs.Cmp.Rules.{comparing}
use Rattle.std.specs.List.{list_all}
use Rattle.std.specs.Map.{lookup}
use Rattle.std.proofs.Common.{rules}
use Rattle.std.proofs.lemmas.Option.{same_Some}
use Rattle.union_base.specs.Both.{both_true}
use Rattle.union_base.specs.SortedLists.{is_ascending}
use Rattle.union_base.specs.declared.record_id.RecordId.{RecordId}
use Rattle.work_clusters.specs.Works.{key_cmp, is_key, is_above, keys_of, key_after, ids_under}

abbrev Work : Type 0
Work = List ℕ × List RecordId

key_total : IsTotalOrder key_cmp
key_total = search (comparing, rules)

not_below : (r s : Ordering) → s ≡ ordering_reverse r → is_lt r ≡ true → (is_lt s ≡ false) × (is_eq s ≡ false)
not_below Less s e h = (ap is_lt e, ap is_eq e)
not_below Equal s e h = cc
not_below Greater s e h = cc

by-itself : (r : Ordering) → r ≡ ordering_reverse r → (is_lt r ≡ false) × (is_eq r ≡ true)
by-itself Less e = cc
by-itself Equal e = (refl, refl)
by-itself Greater e = cc

each-key : (p : List ℕ → Bool) (keys : List (List ℕ)) (place : ℕ) (key : List ℕ) → list_all p keys ≡ true → slice_get keys place ≡ Some key → p key ≡ true
each-key p [] place key all at = cc
each-key p (x ∷ keys) zero key all at = ap p (sym (same_Some x key at)) ∙ (both_true (p x) (list_all p keys) all).0
each-key p (x ∷ keys) (suc place) key all at = each-key p keys place key (both_true (p x) (list_all p keys) all).1 at

-- where all are above the key, the first is the first above it
first-above : (keys : List (List ℕ)) (key : List ℕ) → list_all (λ y. is_lt (key_cmp key y)) keys ≡ true → find (is_above (Some key)) keys ≡ slice_get keys 0
first-above [] key all = refl
first-above (x ∷ keys) key all =
    ap (λ b. cond b (Some x) (find (is_above (Some key)) keys)) (both_true (is_lt (key_cmp key x)) (list_all (λ y. is_lt (key_cmp key y)) keys) all).0

skips : (x : List ℕ) (keys : List (List ℕ)) (key : List ℕ) → is_lt (key_cmp key x) ≡ false → find (is_above (Some key)) (x ∷ keys) ≡ find (is_above (Some key)) keys
skips x keys key low = ap (λ b. cond b (Some x) (find (is_above (Some key)) keys)) low

-- above a key stands the next one
next-above : (keys : List (List ℕ)) (place : ℕ) (key : List ℕ) → is_ascending key_cmp keys ≡ true → slice_get keys place ≡ Some key
    → find (is_above (Some key)) keys ≡ slice_get keys (suc place)
next-above [] place key up at = cc
next-above (x ∷ keys) zero key up at =
    let parts = both_true (list_all (λ y. is_lt (key_cmp x y)) keys) (is_ascending key_cmp keys) up in
    ap (λ k. find (is_above (Some k)) (x ∷ keys)) (sym (same_Some x key at))
    ∙ skips x keys x (by-itself (key_cmp x x) (key_total.antisymm x x)).0
    ∙ first-above keys x parts.0
next-above (x ∷ keys) (suc place) key up at =
    let parts = both_true (list_all (λ y. is_lt (key_cmp x y)) keys) (is_ascending key_cmp keys) up in
    skips x keys key (not_below (key_cmp x key) (key_cmp key x) (key_total.antisymm key x) (each-key (λ y. is_lt (key_cmp x y)) keys place key parts.0 at)).0
    ∙ next-above keys place key parts.1 at

pub next-key : (works : List Work) (place : ℕ) (key : List ℕ) → is_ascending key_cmp (keys_of works) ≡ true → slice_get (keys_of works) place ≡ Some key
    → key_after works (Some key) ≡ slice_get (keys_of works) (place + 1)
next-key works place key up at = next-above (keys_of works) place key up at ∙ ap (slice_get (keys_of works)) (one-more place)
  where
    one-more : (n : ℕ) → suc n ≡ n + 1
    one-more n = omega arith

pub first-key : (works : List Work) → key_after works None ≡ slice_get (keys_of works) 0
first-key [] = refl
first-key (work ∷ works) = refl

-- the work at a place
work-there : (works : List Work) (place : ℕ) (key : List ℕ) → slice_get (keys_of works) place ≡ Some key
    → (ids : List RecordId) × (slice_get works place ≡ Some (key, ids))
work-there [] place key at = cc
work-there (work ∷ works) zero key at = (work.1, ap (λ k. Some (k, work.1)) (same_Some work.0 key at))
work-there (work ∷ works) (suc place) key at = work-there works place key at

ids-there : (works : List Work) (place : ℕ) (key : List ℕ) (ids : List RecordId) → is_ascending key_cmp (keys_of works) ≡ true
    → slice_get works place ≡ Some (key, ids) → lookup (is_key key) works ≡ Some ids
ids-there [] place key ids up at = cc
ids-there (work ∷ works) zero key ids up at =
    let same = same_Some work (key, ids) at in
    ap (λ b. cond b (Some work.1) (lookup (is_key key) works)) (ap (is_key key) (ap (λ (w : Work). w.0) same) ∙ (by-itself (key_cmp key key) (key_total.antisymm key key)).1)
    ∙ ap (λ (w : Work). Some w.1) same
ids-there (work ∷ works) (suc place) key ids up at =
    let parts = both_true (list_all (λ y. is_lt (key_cmp work.0 y)) (keys_of works)) (is_ascending key_cmp (keys_of works)) up in
    let low = each-key (λ y. is_lt (key_cmp work.0 y)) (keys_of works) place key parts.0 (key-there works place key ids at) in
    ap (λ b. cond b (Some work.1) (lookup (is_key key) works)) (not_below (key_cmp work.0 key) (key_cmp key work.0) (key_total.antisymm key work.0) low).1
    ∙ ids-there works place key ids parts.1 at
  where
    key-there : (works : List Work) (place : ℕ) (key : List ℕ) (ids : List RecordId) → slice_get works place ≡ Some (key, ids) → slice_get (keys_of works) place ≡ Some key
    key-there [] place key ids at = cc
    key-there (work ∷ works) zero key ids at = ap (λ (w : Work). Some w.0) (same_Some work (key, ids) at)
    key-there (work ∷ works) (suc place) key ids at = key-there works place key ids at

-- the work of the key at a place
pub work-at : (works : List Work) (place : ℕ) (key : List ℕ) → is_ascending key_cmp (keys_of works) ≡ true → slice_get (keys_of works) place ≡ Some key
    → slice_get works place ≡ Some (key, ids_under works key)
work-at works place key up at =
    let there = work-there works place key at in
    there.1 ∙ ap (λ ids. Some (key, ids)) (sym (ap (λ (o : Option (List RecordId)). unwrap_or o []) (ids-there works place key there.0 up there.1)))

pub keys-many : (works : List Work) → length (keys_of works) ≡ length works
keys-many [] = refl
keys-many (work ∷ works) = ap suc (keys-many works)
