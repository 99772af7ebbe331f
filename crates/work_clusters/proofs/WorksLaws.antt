-- What follows of works: the pairs alone determine them, and a change of works is the change of the pairs.
use Rattle.std.proofs.Common.{◌≡◌, ℕ, Bool, true, false, not, cond, ◌&&◌, ◌||◌, List, [], ◌∷◌, ◌++◌, map, refl, sym, ap, ◌∙◌, rules}
use Rattle.std.specs.Prelude.{filter, unwrap_or, Some}
use Rattle.std.specs.declared.cmp.Ordering.{Ordering}
use Rattle.std.specs.declared.cmp.Ordering.TheVariants.{Less, Equal, Greater}
use Rattle.std.specs.Ordering.{is_eq, is_lt, eq_by_cmp, ordering_then, ordering_reverse, match_ordering}
use Rattle.std.specs.Cmp.{IsTotalOrder}
use Rattle.std.specs.Cmp.Rules.{comparing}
use Rattle.std.specs.FinMap.{IsAntisymmetric}
use Rattle.std.specs.List.{list_all}
use Rattle.std.specs.Map.{lookup}
use Rattle.std.proofs.lemmas.List.Folds.{list_any-append}
use Rattle.union_base.specs.Both.{both_true}
use Rattle.union_base.specs.IdLaws.{ids_apart}
use Rattle.union_base.specs.SortedLists.{is_ascending, put, set_of, has}
use Rattle.union_base.specs.Ties.{texts_apart, then_ties}
use Rattle.union_base.specs.declared.record_id.RecordId.{RecordId}
use Rattle.union_base.proofs.SortedListLaws.{has-union, is_ascending-union, same_ascending}
use Rattle.work_clusters.specs.Works.{some, AreWorks, key_cmp, pair_cmp, is_key, ids_with, keys_in, works_of, pairs_of, without, changed, ids_under, keys_of}
use Rattle.union_base.specs.RecordIds.{id_cmp}

-- ---- the three orders

pub key_total : IsTotalOrder key_cmp
key_total = search (comparing, rules)

pub id_total : IsTotalOrder id_cmp
id_total = search (comparing, rules)

pub pair_total : IsTotalOrder pair_cmp
pair_total = search (comparing, rules)

pub pairs_apart : IsAntisymmetric pair_cmp
pairs_apart x y e =
    let parts = then_ties (key_cmp x.0 y.0) (id_cmp x.1 y.1) e in
    λ i. (texts_apart x.0 y.0 parts.0 i, ids_apart x.1 y.1 parts.1 i)

-- ---- tests

eq_is : (r : Ordering) → is_eq r ≡ true → r ≡ Equal
eq_is Less h = cc
eq_is Equal h = refl
eq_is Greater h = cc

lt_is : (r : Ordering) → is_lt r ≡ true → r ≡ Less
lt_is Less h = refl
lt_is Equal h = cc
lt_is Greater h = cc

not_eq-from_less : (r : Ordering) → r ≡ Less → is_eq (ordering_reverse r) ≡ false
not_eq-from_less Less h = refl
not_eq-from_less Equal h = cc
not_eq-from_less Greater h = cc

pub or_false : (a : Bool) → (a || false) ≡ a
or_false true = refl
or_false false = refl

and_or : (a b c : Bool) → ((a || b) && c) ≡ ((a && c) || (b && c))
and_or true b true = refl
and_or true b false = sym (elim b as (λ v. (v && false) ≡ false) [ true ↦ refl | false ↦ refl ])
and_or false b c = refl

some_none : {X : Type 0} → (xs : List X) → some xs ≡ false → xs ≡ []
some_none [] h = refl
some_none (x ∷ xs) h = cc

module _ {K : Type 0} {R : K → K → Ordering} (o : IsTotalOrder R) (ties : IsAntisymmetric R) where
  pub itself : (x : K) → eq_by_cmp R x x ≡ true
  itself x = elim (R x x) as (λ r. R x x ≡ r → is_eq r ≡ true) [
    | Less ↦ λ e. let clash : Less ≡ Greater = sym e ∙ o.antisymm x x ∙ ap ordering_reverse e in cc
    | Equal ↦ λ e. refl
    | Greater ↦ λ e. let clash : Greater ≡ Less = sym e ∙ o.antisymm x x ∙ ap ordering_reverse e in cc
  ] refl

  -- what is below another is not it
  pub apart_below : (x q : K) → is_lt (R x q) ≡ true → eq_by_cmp R q x ≡ false
  apart_below x q h = ap is_eq (o.antisymm q x) ∙ not_eq-from_less (R x q) (lt_is (R x q) h)

  -- members of a filter
  pub has-filter : (p : K → Bool) (xs : List K) (q : K) → has R (filter p xs) q ≡ (has R xs q && p q)
  has-filter p [] q = refl
  has-filter p (x ∷ xs) q =
      elim (eq_by_cmp R q x) as (λ b. eq_by_cmp R q x ≡ b → has R (cond (p x) (x ∷ filter p xs) (filter p xs)) q ≡ ((b || has R xs q) && p q)) [
        | true ↦ λ e.
            let same : q ≡ x = ties q x (eq_is (R q x) e) in
            elim (p x) as (λ t. p x ≡ t → has R (cond t (x ∷ filter p xs) (filter p xs)) q ≡ p q) [
              | true ↦ λ t. ap (λ b. b || has R (filter p xs) q) e ∙ sym (ap p same ∙ t)
              | false ↦ λ t. has-filter p xs q ∙ ap (λ b. has R xs q && b) (ap p same ∙ t) ∙ none (has R xs q) ∙ sym (ap p same ∙ t)
            ] refl
        | false ↦ λ e.
            elim (p x) as (λ t. has R (cond t (x ∷ filter p xs) (filter p xs)) q ≡ (has R xs q && p q)) [
              | true ↦ ap (λ b. b || has R (filter p xs) q) e ∙ has-filter p xs q
              | false ↦ has-filter p xs q
            ]
      ] refl
    where
      none : (b : Bool) → (b && false) ≡ false
      none true = refl
      none false = refl

  pub has-set_of : (xs : List K) (q : K) → has R (set_of R xs) q ≡ has R xs q
  has-set_of xs q = has-union o [] xs q

  some-put : (y : K) (xs : List K) → some (put R y xs) ≡ true
  some-put y [] = refl
  some-put y (x ∷ xs) =
      elim (R y x) as (λ r. some (match_ordering r (y ∷ x ∷ xs) (x ∷ xs) (x ∷ put R y xs)) ≡ true) [ Less ↦ refl | Equal ↦ refl | Greater ↦ refl ]

  pub some-set_of : (xs : List K) → some (set_of R xs) ≡ some xs
  some-set_of [] = refl
  some-set_of (x ∷ xs) = some-put x (set_of R xs)

-- ---- the ids that stand with a key

pub then_eq : (r s : Ordering) → is_eq (ordering_then r s) ≡ (is_eq r && is_eq s)
then_eq Less s = refl
then_eq Equal s = refl
then_eq Greater s = refl

-- the ids of the pairs with the key, as they stand
abbrev chosen : List (List ℕ × RecordId) → List ℕ → List RecordId
chosen pairs key = map (λ p. p.1) (filter (λ p. is_key key p.0) pairs)

has-chosen : (pairs : List (List ℕ × RecordId)) (key : List ℕ) (id : RecordId) → has id_cmp (chosen pairs key) id ≡ has pair_cmp pairs (key, id)
has-chosen [] key id = refl
has-chosen (p ∷ ps) key id =
    elim (key_cmp key p.0) as (λ r. has id_cmp (map (λ p. p.1) (cond (is_eq r) (p ∷ filter (λ p. is_key key p.0) ps) (filter (λ p. is_key key p.0) ps))) id
    ≡ (is_eq (ordering_then r (id_cmp id p.1)) || has pair_cmp ps (key, id))) [
      | Less ↦ has-chosen ps key id
      | Equal ↦ ap (λ b. eq_by_cmp id_cmp id p.1 || b) (has-chosen ps key id)
      | Greater ↦ has-chosen ps key id
    ]

-- an id stands with a key exactly where the two are one of the pairs
pub has-ids_with : (pairs : List (List ℕ × RecordId)) (key : List ℕ) (id : RecordId) → has id_cmp (ids_with pairs key) id ≡ has pair_cmp pairs (key, id)
has-ids_with pairs key id = has-set_of id_total ids_apart (chosen pairs key) id ∙ has-chosen pairs key id

pub is_ascending-ids_with : (pairs : List (List ℕ × RecordId)) (key : List ℕ) → is_ascending id_cmp (ids_with pairs key) ≡ true
is_ascending-ids_with pairs key = is_ascending-union id_total [] (chosen pairs key) refl

pub is_ascending-keys_in : (pairs : List (List ℕ × RecordId)) → is_ascending key_cmp (keys_in pairs) ≡ true
is_ascending-keys_in pairs = is_ascending-union key_total [] (map (λ p. p.0) pairs) refl

some-chosen : (pairs : List (List ℕ × RecordId)) (key : List ℕ) → has key_cmp (map (λ p. p.0) pairs) key ≡ some (chosen pairs key)
some-chosen [] key = refl
some-chosen (p ∷ ps) key =
    elim (is_key key p.0) as (λ b. (b || has key_cmp (map (λ p. p.0) ps) key) ≡ some (map (λ p. p.1) (cond b (p ∷ filter (λ p. is_key key p.0) ps) (filter (λ p. is_key key p.0) ps)))) [
      | true ↦ refl
      | false ↦ some-chosen ps key
    ]

-- the keys are those with which some id stands
pub has-keys_in : (pairs : List (List ℕ × RecordId)) (key : List ℕ) → has key_cmp (keys_in pairs) key ≡ some (ids_with pairs key)
has-keys_in pairs key =
    has-set_of key_total texts_apart (map (λ p. p.0) pairs) key ∙ some-chosen pairs key ∙ sym (some-set_of id_total ids_apart (chosen pairs key))

-- ---- works as a function of the key

-- each key with the ids that f gives it
abbrev pub tabulated : (List ℕ → List RecordId) → List (List ℕ) → List (List ℕ × List RecordId)
tabulated f keys = map (λ key. (key, f key)) keys

ids_under-tabulated : (f : List ℕ → List RecordId) (keys : List (List ℕ)) (q : List ℕ) → ids_under (tabulated f keys) q ≡ cond (has key_cmp keys q) (f q) []
ids_under-tabulated f [] q = refl
ids_under-tabulated f (k ∷ ks) q =
    elim (is_key q k) as (λ b. is_key q k ≡ b → unwrap_or (cond b (Some (f k)) (lookup (is_key q) (tabulated f ks))) [] ≡ cond (b || has key_cmp ks q) (f q) []) [
      | true ↦ λ e. ap f (sym (texts_apart q k (eq_is (key_cmp q k) e)))
      | false ↦ λ e. ids_under-tabulated f ks q
    ] refl

-- the ids under a key in the works of pairs are those that stand with it
pub ids_under-works_of : (pairs : List (List ℕ × RecordId)) (key : List ℕ) → ids_under (works_of pairs) key ≡ ids_with pairs key
ids_under-works_of pairs key =
    ids_under-tabulated (ids_with pairs) (keys_in pairs) key ∙ ap (λ b. cond b (ids_with pairs key) []) (has-keys_in pairs key) ∙ whole (ids_with pairs key)
  where
    whole : (ids : List RecordId) → cond (some ids) ids [] ≡ ids
    whole [] = refl
    whole (x ∷ xs) = refl

not_key-from_below : (k q : List ℕ) → is_lt (key_cmp k q) ≡ true → is_key k q ≡ false
not_key-from_below k q h = ap is_eq (lt_is (key_cmp k q) h)

-- a key below all those of the works is none of theirs
pub ids_under-below : (k q : List ℕ) (works : List (List ℕ × List RecordId)) → is_key q k ≡ true → list_all (λ y. is_lt (key_cmp k y)) (keys_of works) ≡ true → ids_under works q ≡ []
ids_under-below k q [] e h = refl
ids_under-below k q (w ∷ ws) e h =
    let parts = both_true (is_lt (key_cmp k w.0)) (list_all (λ y. is_lt (key_cmp k y)) (keys_of ws)) h in
    let same : q ≡ k = texts_apart q k (eq_is (key_cmp q k) e) in
    let apart : is_key q w.0 ≡ false = not_key-from_below q w.0 (ap (λ z. is_lt (key_cmp z w.0)) same ∙ parts.0) in
    ap (λ b. unwrap_or (cond b (Some w.1) (lookup (is_key q) ws)) []) apart ∙ ids_under-below k q ws e parts.1

-- for keys above the first the first work may be left out
tabulated_rest : (w : List ℕ × List RecordId) (ws : List (List ℕ × List RecordId)) (keys : List (List ℕ)) → list_all (λ y. is_lt (key_cmp w.0 y)) keys ≡ true
    → tabulated (ids_under (w ∷ ws)) keys ≡ tabulated (ids_under ws) keys
tabulated_rest w ws [] h = refl
tabulated_rest w ws (k ∷ ks) h =
    let parts = both_true (is_lt (key_cmp w.0 k)) (list_all (λ y. is_lt (key_cmp w.0 y)) ks) h in
    let first : ids_under (w ∷ ws) k ≡ ids_under ws k =
    ap (λ b. unwrap_or (cond b (Some w.1) (lookup (is_key k) ws)) []) (apart_below key_total texts_apart w.0 k parts.0) in
    let rest = tabulated_rest w ws ks parts.1 in
    λ i. (k, first i) ∷ rest i

-- works are the table of their keys
tabulated_again : (works : List (List ℕ × List RecordId)) → is_ascending key_cmp (keys_of works) ≡ true → works ≡ tabulated (ids_under works) (keys_of works)
tabulated_again [] h = refl
tabulated_again (w ∷ ws) h =
    let parts = both_true (list_all (λ y. is_lt (key_cmp w.0 y)) (keys_of ws)) (is_ascending key_cmp (keys_of ws)) h in
    let first : w.1 ≡ ids_under (w ∷ ws) w.0 = sym (ap (λ b. unwrap_or (cond b (Some w.1) (lookup (is_key w.0) ws)) []) (itself key_total texts_apart w.0)) in
    let rest = tabulated_again ws parts.1 ∙ sym (tabulated_rest w ws (keys_of ws) parts.0) in
    λ i. (w.0, first i) ∷ rest i

module _ (works : List (List ℕ × List RecordId)) where
  each_some : (q : List ℕ) (ws : List (List ℕ × List RecordId)) → list_all (λ work. some work.1 && is_ascending id_cmp work.1) ws ≡ true → has key_cmp (keys_of ws) q ≡ some (ids_under ws q)
  each_some q [] h = refl
  each_some q (w ∷ ws) h =
      let parts = both_true (some w.1 && is_ascending id_cmp w.1) (list_all (λ work. some work.1 && is_ascending id_cmp work.1) ws) h in
      let kept = both_true (some w.1) (is_ascending id_cmp w.1) parts.0 in
      elim (is_key q w.0) as (λ b. (b || has key_cmp (keys_of ws) q) ≡ some (unwrap_or (cond b (Some w.1) (lookup (is_key q) ws)) [])) [
        | true ↦ sym kept.0
        | false ↦ each_some q ws parts.1
      ]

  each_ascending : (q : List ℕ) (ws : List (List ℕ × List RecordId)) → list_all (λ work. some work.1 && is_ascending id_cmp work.1) ws ≡ true → is_ascending id_cmp (ids_under ws q) ≡ true
  each_ascending q [] h = refl
  each_ascending q (w ∷ ws) h =
      let parts = both_true (some w.1 && is_ascending id_cmp w.1) (list_all (λ work. some work.1 && is_ascending id_cmp work.1) ws) h in
      let kept = both_true (some w.1) (is_ascending id_cmp w.1) parts.0 in
      elim (is_key q w.0) as (λ b. is_ascending id_cmp (unwrap_or (cond b (Some w.1) (lookup (is_key q) ws)) []) ≡ true) [
        | true ↦ kept.1
        | false ↦ each_ascending q ws parts.1
      ]

  module _ (well : AreWorks works) where
    pub has-keys_of : (q : List ℕ) → has key_cmp (keys_of works) q ≡ some (ids_under works q)
    has-keys_of q = each_some q works well.ids

    pub is_ascending-ids_under : (q : List ℕ) → is_ascending id_cmp (ids_under works q) ≡ true
    is_ascending-ids_under q = each_ascending q works well.ids

    -- works that have the ids of the pairs under each key are the works of the pairs
    pub works-from_ids : (pairs : List (List ℕ × RecordId)) → ((q : List ℕ) (id : RecordId) → has id_cmp (ids_under works q) id ≡ has pair_cmp pairs (q, id)) → works ≡ works_of pairs
    works-from_ids pairs same =
        let ids : (q : List ℕ) → ids_under works q ≡ ids_with pairs q = λ q.
        same_ascending id_total ids_apart (ids_under works q) (ids_with pairs q) (is_ascending-ids_under q) (is_ascending-ids_with pairs q)
        (λ id. same q id ∙ sym (has-ids_with pairs q id)) in
        let keys : keys_of works ≡ keys_in pairs =
        same_ascending key_total texts_apart (keys_of works) (keys_in pairs) well.keys (is_ascending-keys_in pairs)
        (λ q. has-keys_of q ∙ ap some (ids q) ∙ sym (has-keys_in pairs q)) in
        tabulated_again works well.keys ∙ (λ i. tabulated (λ q. ids q i) (keys i))

-- the works of pairs do not depend on the order of the pairs, nor on repeats
pub works_of-same : (pairs others : List (List ℕ × RecordId)) → ((p : List ℕ × RecordId) → has pair_cmp pairs p ≡ has pair_cmp others p) → works_of pairs ≡ works_of others
works_of-same pairs others same =
    let ids : (q : List ℕ) → ids_with pairs q ≡ ids_with others q = λ q.
    same_ascending id_total ids_apart (ids_with pairs q) (ids_with others q) (is_ascending-ids_with pairs q) (is_ascending-ids_with others q)
    (λ id. has-ids_with pairs q id ∙ same (q, id) ∙ sym (has-ids_with others q id)) in
    let keys : keys_in pairs ≡ keys_in others =
    same_ascending key_total texts_apart (keys_in pairs) (keys_in others) (is_ascending-keys_in pairs) (is_ascending-keys_in others)
    (λ q. has-keys_in pairs q ∙ ap some (ids q) ∙ sym (has-keys_in others q)) in
    λ i. tabulated (λ q. ids q i) (keys i)

-- ---- the pairs of works

has-keyed : (key : List ℕ) (ids : List RecordId) (q : List ℕ) (id : RecordId) → has pair_cmp (map (λ i. (key, i)) ids) (q, id) ≡ (is_key q key && has id_cmp ids id)
has-keyed key [] q id = sym (elim (is_key q key) as (λ b. (b && false) ≡ false) [ true ↦ refl | false ↦ refl ])
has-keyed key (x ∷ xs) q id =
    ap (λ b. eq_by_cmp pair_cmp (q, id) (key, x) || b) (has-keyed key xs q id)
    ∙ elim (key_cmp q key) as (λ r. (is_eq (ordering_then r (id_cmp id x)) || (is_eq r && has id_cmp xs id)) ≡ (is_eq r && (eq_by_cmp id_cmp id x || has id_cmp xs id))) [ Less ↦ refl | Equal ↦ refl | Greater ↦ refl ]

-- a pair is one of works exactly where its id stands under its key
pub has-pairs_of : (works : List (List ℕ × List RecordId)) → is_ascending key_cmp (keys_of works) ≡ true → (q : List ℕ) (id : RecordId)
    → has pair_cmp (pairs_of works) (q, id) ≡ has id_cmp (ids_under works q) id
has-pairs_of [] h q id = refl
has-pairs_of (w ∷ ws) h q id =
    let parts = both_true (list_all (λ y. is_lt (key_cmp w.0 y)) (keys_of ws)) (is_ascending key_cmp (keys_of ws)) h in
    list_any-append (eq_by_cmp pair_cmp (q, id)) (map (λ i. (w.0, i)) w.1) (pairs_of ws)
    ∙ ap (λ b. b || has pair_cmp (pairs_of ws) (q, id)) (has-keyed w.0 w.1 q id)
    ∙ ap (λ b. (is_key q w.0 && has id_cmp w.1 id) || b) (has-pairs_of ws parts.1 q id)
    ∙ elim (is_key q w.0) as (λ b. is_key q w.0 ≡ b → ((b && has id_cmp w.1 id) || has id_cmp (ids_under ws q) id) ≡ has id_cmp (unwrap_or (cond b (Some w.1) (lookup (is_key q) ws)) []) id) [
      | true ↦ λ e. ap (λ ids. has id_cmp w.1 id || has id_cmp ids id) (ids_under-below w.0 q ws e parts.0) ∙ or_false (has id_cmp w.1 id)
      | false ↦ λ e. refl
    ] refl

-- works with the same ids under each key are the same
pub same_works : (works others : List (List ℕ × List RecordId)) → AreWorks works → AreWorks others
    → ((q : List ℕ) (id : RecordId) → has id_cmp (ids_under works q) id ≡ has id_cmp (ids_under others q) id) → works ≡ others
same_works works others well good same =
    works-from_ids works well (pairs_of others) (λ q id. same q id ∙ sym (has-pairs_of others good.keys q id))
    ∙ sym (works-from_ids others good (pairs_of others) (λ q id. sym (has-pairs_of others good.keys q id)))

-- ---- a change

-- what stands in works after a change: what stood and is not gone, and what came
pub has-after : (works : List (List ℕ × List RecordId)) (gone come : List (List ℕ × RecordId)) → is_ascending key_cmp (keys_of works) ≡ true → (q : List ℕ) (id : RecordId)
    → has pair_cmp (without gone (pairs_of works) ++ come) (q, id) ≡ ((has id_cmp (ids_under works q) id && not (has pair_cmp gone (q, id))) || has pair_cmp come (q, id))
has-after works gone come h q id =
    list_any-append (eq_by_cmp pair_cmp (q, id)) (without gone (pairs_of works)) come
    ∙ ap (λ b. b || has pair_cmp come (q, id)) (has-filter pair_total pairs_apart (λ p. not (has pair_cmp gone p)) (pairs_of works) (q, id)
    ∙ ap (λ b. b && not (has pair_cmp gone (q, id))) (has-pairs_of works h q id))

keys_of-tabulated : (f : List ℕ → List RecordId) (keys : List (List ℕ)) → keys_of (tabulated f keys) ≡ keys
keys_of-tabulated f [] = refl
keys_of-tabulated f (k ∷ ks) = ap (λ rest. k ∷ rest) (keys_of-tabulated f ks)

pub keys_of-works_of : (pairs : List (List ℕ × RecordId)) → keys_of (works_of pairs) ≡ keys_in pairs
keys_of-works_of pairs = keys_of-tabulated (ids_with pairs) (keys_in pairs)

-- the change of the works of pairs is the works of the pairs after it
pub changed-works_of : (pairs gone come after : List (List ℕ × RecordId))
    → ((p : List ℕ × RecordId) → has pair_cmp after p ≡ ((has pair_cmp pairs p && not (has pair_cmp gone p)) || has pair_cmp come p))
    → changed (works_of pairs) gone come ≡ works_of after
changed-works_of pairs gone come after same =
    let ascending : is_ascending key_cmp (keys_of (works_of pairs)) ≡ true = ap (is_ascending key_cmp) (keys_of-tabulated (ids_with pairs) (keys_in pairs)) ∙ is_ascending-keys_in pairs in
    works_of-same (without gone (pairs_of (works_of pairs)) ++ come) after (λ p.
    has-after (works_of pairs) gone come ascending p.0 p.1
    ∙ ap (λ b. (b && not (has pair_cmp gone p)) || has pair_cmp come p) (ap (λ ids. has id_cmp ids p.1) (ids_under-works_of pairs p.0) ∙ has-ids_with pairs p.0 p.1)
    ∙ sym (same p))
