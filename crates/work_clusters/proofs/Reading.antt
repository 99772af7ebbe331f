-- What is read of entries by key.
use Rattle.std.proofs.Common.{◌≡◌, ℕ, ◌≤◌, Bool, true, false, cond, ◌&&◌, List, [], ◌∷◌, length, refl, sym, ap, ◌∙◌, arith}
use Rattle.std.specs.Prelude.{filter, find, unwrap_or, Option, Some}
use Rattle.std.specs.Option.{option_map}
use Rattle.std.specs.declared.cmp.Ordering.TheVariants.{Less, Equal, Greater}
use Rattle.std.specs.Ordering.{is_lt, is_eq, ordering_reverse}
use Rattle.std.specs.List.{list_all, AllByRecursion}
use Rattle.std.specs.List.Sorted.{IsStrictlySortedBy}
use Rattle.std.specs.Map.{lookup}
use Rattle.std.specs.Map as std_map
use Rattle.union_base.specs.Both.{both_true, true_both}
use Rattle.union_base.specs.SortedLists.{is_ascending}
use Rattle.union_base.specs.declared.record_id.RecordId.{RecordId}
use Rattle.work_clusters.specs.Works.{key_cmp, is_key, is_above, keys_of, ids_under, some, AreWorks}
use Rattle.union_base.specs.RecordIds.{id_cmp}
use Rattle.work_clusters.proofs.WorksLaws.{key_total, ids_under-below}
use Rattle.work_clusters.specs.Room.{room_under}
use Rattle.work_clusters.specs.Entries.{Kept, by_key, listed, works_in, room_in, AreEntries}

pub same_both_ways : (q key : List ℕ) → is_key q key ≡ is_key key q
same_both_ways q key = ap is_eq (key_total.antisymm q key) ∙ elim (key_cmp key q) as (λ r. is_eq (ordering_reverse r) ≡ is_eq r) [ Less ↦ refl | Equal ↦ refl | Greater ↦ refl ]

pub lookup-by_key : {X : Type 0} (f : Kept → X) (test : List ℕ → Bool) (es : List (List ℕ × Kept)) → lookup test (by_key f es) ≡ option_map f (lookup test es)
lookup-by_key f test [] = refl
lookup-by_key f test (e ∷ es) =
    elim (test e.0) as (λ b. cond b (Some (f e.1)) (lookup test (by_key f es)) ≡ option_map f (cond b (Some e.1) (lookup test es))) [
      | true ↦ refl
      | false ↦ lookup-by_key f test es
    ]

-- ---- keys in order

below_each : (k : List ℕ) (es : List (List ℕ × Kept)) → AllByRecursion (λ y. key_cmp k y ≡ Less) (std_map.keys_of es) → list_all (λ y. is_lt (key_cmp k y)) (keys_of (listed es)) ≡ true
below_each k [] h = refl
below_each k (e ∷ es) h = true_both (is_lt (key_cmp k e.0)) (list_all (λ y. is_lt (key_cmp k y)) (keys_of (listed es))) (ap is_lt h.0) (below_each k es h.1)

pub ascending-from_ordered : (es : List (List ℕ × Kept)) → IsStrictlySortedBy key_cmp (std_map.keys_of es) → is_ascending key_cmp (keys_of (listed es)) ≡ true
unfolding IsStrictlySortedBy
ascending-from_ordered [] s = refl
ascending-from_ordered (e ∷ es) s =
    true_both (list_all (λ y. is_lt (key_cmp e.0 y)) (keys_of (listed es))) (is_ascending key_cmp (keys_of (listed es))) (below_each e.0 es s.0) (ascending-from_ordered es s.1)

pub ids_at : (es : List (List ℕ × Kept)) (test : List ℕ → Bool) (work : Kept) → lookup test es ≡ Some work → list_all (λ work. is_ascending id_cmp work.1) (listed es) ≡ true → is_ascending id_cmp work.ids ≡ true
ids_at [] test work e h = cc
ids_at (x ∷ es) test work e h =
    let parts = both_true (is_ascending id_cmp x.1.ids) (list_all (λ work. is_ascending id_cmp work.1) (listed es)) h in
    elim (test x.0) as (λ b. cond b (Some x.1) (lookup test es) ≡ Some work → is_ascending id_cmp work.ids ≡ true) [
      | true ↦ λ same. let found : x.1 ≡ work = cc in ap (λ w. is_ascending id_cmp w.ids) (sym found) ∙ parts.0
      | false ↦ λ same. ids_at es test work same parts.1
    ] e

-- ---- what is left where entries with no ids are left out

below-kept : (k : List ℕ) (ms : List (List ℕ × List RecordId)) → list_all (λ y. is_lt (key_cmp k y)) (keys_of ms) ≡ true → list_all (λ y. is_lt (key_cmp k y)) (keys_of (filter (λ w. some w.1) ms)) ≡ true
below-kept k [] h = refl
below-kept k (w ∷ ms) h =
    let parts = both_true (is_lt (key_cmp k w.0)) (list_all (λ y. is_lt (key_cmp k y)) (keys_of ms)) h in
    elim (some w.1) as (λ b. list_all (λ y. is_lt (key_cmp k y)) (keys_of (cond b (w ∷ filter (λ w. some w.1) ms) (filter (λ w. some w.1) ms))) ≡ true) [
      | true ↦ true_both (is_lt (key_cmp k w.0)) _ parts.0 (below-kept k ms parts.1)
      | false ↦ below-kept k ms parts.1
    ]

keys-kept : (ms : List (List ℕ × List RecordId)) → is_ascending key_cmp (keys_of ms) ≡ true → is_ascending key_cmp (keys_of (filter (λ w. some w.1) ms)) ≡ true
keys-kept [] h = refl
keys-kept (w ∷ ms) h =
    let parts = both_true (list_all (λ y. is_lt (key_cmp w.0 y)) (keys_of ms)) (is_ascending key_cmp (keys_of ms)) h in
    elim (some w.1) as (λ b. is_ascending key_cmp (keys_of (cond b (w ∷ filter (λ w. some w.1) ms) (filter (λ w. some w.1) ms))) ≡ true) [
      | true ↦ true_both (list_all (λ y. is_lt (key_cmp w.0 y)) (keys_of (filter (λ w. some w.1) ms))) _ (below-kept w.0 ms parts.0) (keys-kept ms parts.1)
      | false ↦ keys-kept ms parts.1
    ]

ids-kept : (ms : List (List ℕ × List RecordId)) → list_all (λ work. is_ascending id_cmp work.1) ms ≡ true
    → list_all (λ work. some work.1 && is_ascending id_cmp work.1) (filter (λ w. some w.1) ms) ≡ true
ids-kept [] h = refl
ids-kept (w ∷ ms) h =
    let parts = both_true (is_ascending id_cmp w.1) (list_all (λ work. is_ascending id_cmp work.1) ms) h in
    elim (some w.1) as (λ b. some w.1 ≡ b → list_all (λ work. some work.1 && is_ascending id_cmp work.1) (cond b (w ∷ filter (λ w. some w.1) ms) (filter (λ w. some w.1) ms)) ≡ true) [
      | true ↦ λ e. true_both (some w.1 && is_ascending id_cmp w.1) _ (true_both (some w.1) (is_ascending id_cmp w.1) e parts.0) (ids-kept ms parts.1)
      | false ↦ λ e. ids-kept ms parts.1
    ] refl

-- the works of entries in order are works
pub works_from_entries : (es : List (List ℕ × Kept)) → AreEntries es → AreWorks (works_in es)
works_from_entries es well = record { keys = keys-kept (listed es) well.keys; ids = ids-kept (listed es) well.ids }

-- and under each key stand in them the ids of its entry
ids_under-kept : (ms : List (List ℕ × List RecordId)) → is_ascending key_cmp (keys_of ms) ≡ true → (q : List ℕ) → ids_under (filter (λ w. some w.1) ms) q ≡ ids_under ms q
ids_under-kept [] h q = refl
ids_under-kept (w ∷ ms) h q =
    let parts = both_true (list_all (λ y. is_lt (key_cmp w.0 y)) (keys_of ms)) (is_ascending key_cmp (keys_of ms)) h in
    let rest = ids_under-kept ms parts.1 q in
    elim (some w.1) as (λ b. some w.1 ≡ b → ids_under (cond b (w ∷ filter (λ w. some w.1) ms) (filter (λ w. some w.1) ms)) q ≡ ids_under (w ∷ ms) q) [
      | true ↦ λ e. elim (is_key q w.0) as (λ b. unwrap_or (cond b (Some w.1) (lookup (is_key q) (filter (λ w. some w.1) ms))) [] ≡ unwrap_or (cond b (Some w.1) (lookup (is_key q) ms)) []) [
        | true ↦ refl
        | false ↦ rest
      ]
      | false ↦ λ e. rest ∙ elim (is_key q w.0) as (λ b. is_key q w.0 ≡ b → ids_under ms q ≡ unwrap_or (cond b (Some w.1) (lookup (is_key q) ms)) []) [
        | true ↦ λ t. ids_under-below w.0 q ms t parts.0 ∙ sym (nothing w.1 e)
        | false ↦ λ t. refl
      ] refl
    ] refl
  where
    nothing : (ids : List RecordId) → some ids ≡ false → ids ≡ []
    nothing [] e = refl
    nothing (x ∷ xs) e = cc

pub ids_read : (es : List (List ℕ × Kept)) → AreEntries es → (q : List ℕ) → ids_under (works_in es) q ≡ unwrap_or (option_map (λ work. work.ids) (lookup (is_key q) es)) []
ids_read es well q = ids_under-kept (listed es) well.keys q ∙ ap (λ o. unwrap_or o []) (lookup-by_key (λ work. work.ids) (is_key q) es)

pub room_read : (es : List (List ℕ × Kept)) (q : List ℕ) → room_under (room_in es) q ≡ unwrap_or (option_map (λ work. work.room) (lookup (is_key q) es)) 0
room_read es q = ap (λ o. unwrap_or o 0) (lookup-by_key (λ work. work.room) (is_key q) es)

-- there are no more works than entries
pub length-works_in : (es : List (List ℕ × Kept)) → length (works_in es) ≤ length es
length-works_in [] = omega arith
length-works_in (e ∷ es) =
    let rest = length-works_in es in
    elim (some e.1.ids) as (λ b. length (cond b ((e.0, e.1.ids) ∷ works_in es) (works_in es)) ≤ length (e ∷ es)) [ true ↦ omega arith | false ↦ omega arith ]

-- the first entry with ids among those that pass a test of the keys has the first such key of the works
pub first_kept : (p : List ℕ → Bool) (given : Option (List ℕ)) → ((q : List ℕ) → p q ≡ is_above given q) → (es : List (List ℕ × Kept))
    → option_map (λ e. e.0) (find (λ e. some e.1.ids) (filter (λ e. p e.0) es)) ≡ find (is_above given) (keys_of (works_in es))
first_kept p given same [] = refl
first_kept p given same (e ∷ es) =
    let rest = first_kept p given same es in
    ap (λ b. option_map (λ e. e.0) (find (λ e. some e.1.ids) (cond b (e ∷ filter (λ e. p e.0) es) (filter (λ e. p e.0) es)))) (same e.0)
    ∙ elim (some e.1.ids) as (λ s. some e.1.ids ≡ s → option_map (λ e. e.0) (find (λ e. some e.1.ids) (cond (is_above given e.0) (e ∷ filter (λ e. p e.0) es) (filter (λ e. p e.0) es)))
    ≡ find (is_above given) (keys_of (cond s ((e.0, e.1.ids) ∷ works_in es) (works_in es)))) [
      | true ↦ λ s. elim (is_above given e.0) as (λ b. option_map (λ e. e.0) (find (λ e. some e.1.ids) (cond b (e ∷ filter (λ e. p e.0) es) (filter (λ e. p e.0) es)))
          ≡ cond b (Some e.0) (find (is_above given) (keys_of (works_in es)))) [
            | true ↦ ap (λ b. option_map (λ e. e.0) (cond b (Some e) (find (λ e. some e.1.ids) (filter (λ e. p e.0) es)))) s
            | false ↦ rest
          ]
      | false ↦ λ s. elim (is_above given e.0) as (λ b. option_map (λ e. e.0) (find (λ e. some e.1.ids) (cond b (e ∷ filter (λ e. p e.0) es) (filter (λ e. p e.0) es)))
          ≡ find (is_above given) (keys_of (works_in es))) [
            | true ↦ ap (λ b. option_map (λ e. e.0) (cond b (Some e) (find (λ e. some e.1.ids) (filter (λ e. p e.0) es)))) s ∙ rest
            | false ↦ rest
          ]
    ] refl
