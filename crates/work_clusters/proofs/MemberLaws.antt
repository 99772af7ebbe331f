-- The laws of works by membership: which pairs there are determines the works.
use Rattle.std.proofs.Common.{◌≡◌, ℕ, Bool, true, false, cond, not, Some, None, ◌&&◌, ◌||◌, List, [], ◌∷◌, ◌++◌, refl, sym, subst, ap, ◌∙◌, inl, inr}
use Rattle.std.specs.Prelude.{find, Contains, ◌⊎◌, ◌↔◌}
use Rattle.std.specs.declared.cmp.Ordering.{Ordering}
use Rattle.std.specs.declared.cmp.Ordering.TheVariants.{Less, Equal, Greater}
use Rattle.std.specs.Ordering.{is_eq, is_lt, eq_by_cmp, ordering_reverse}
use Rattle.std.specs.List.{list_all}
use Rattle.std.proofs.lemmas.List.Folds.{list_all-append}
use Rattle.union_base.specs.Both.{both_true}
use Rattle.union_base.specs.Ties.{texts_apart}
use Rattle.std.specs.Cmp.{IsTotalOrder}
use Rattle.std.specs.FinMap.{IsAntisymmetric}
use Rattle.std.specs.List.Sorted.{IsPermutation}
use Rattle.std.proofs.lemmas.List.Folds.{Any-from_list_any, list_any-from_Any}
use Rattle.std.proofs.lemmas.List.Sorted.{list_any-IsPermutation}
use Rattle.union_base.specs.IdLaws.{ids_apart}
use Rattle.union_base.specs.SortedLists.{is_ascending, has}
use Rattle.union_base.specs.declared.record_id.RecordId.{RecordId}
use Rattle.work_clusters.specs.Works.{AreAfter, first_of_list, key_cmp, pair_cmp, works_of, changed, ids_under, keys_of, is_above, key_after}
use Rattle.union_base.specs.RecordIds.{id_cmp}
use Rattle.work_clusters.proofs.WorksLaws.{key_total, id_total, pair_total, pairs_apart, itself, has-ids_with, is_ascending-ids_with, is_ascending-keys_in, ids_under-works_of, keys_of-works_of, works_of-same, changed-works_of}

eq_is : (r : Ordering) → is_eq r ≡ true → r ≡ Equal
eq_is Less h = cc
eq_is Equal h = refl
eq_is Greater h = cc

both_ways : (a b : Bool) → (a ≡ true → b ≡ true) → (b ≡ true → a ≡ true) → a ≡ b
both_ways true b there back = sym (there refl)
both_ways false true there back = back refl
both_ways false false there back = refl

either : (a b : Bool) → (a || b) ≡ true → (a ≡ true) ⊎ (b ≡ true)
either true b h = inl refl
either false b h = inr h

module _ {K : Type 0} {R : K → K → Ordering} (o : IsTotalOrder R) (ties : IsAntisymmetric R) where
  pub member-from_has : (xs : List K) (q : K) → has R xs q ≡ true → Contains xs q
  member-from_has xs q h =
      let some = Any-from_list_any (eq_by_cmp R q) xs h in
      subst (Contains xs) (sym (ties q some.1 (eq_is (R q some.1) some.4))) (some.0, some.2, some.3)

  pub has-from_member : (xs : List K) (q : K) → Contains xs q → has R xs q ≡ true
  has-from_member xs q m = list_any-from_Any (eq_by_cmp R q) xs (m.0, q, m.1, m.2, itself o ties q)

-- ---- the order of pairs, and repeats

pub works_of-members : (pairs others : List (List ℕ × RecordId)) → ((p : List ℕ × RecordId) → Contains pairs p ↔ Contains others p) → works_of pairs ≡ works_of others
works_of-members pairs others same = works_of-same pairs others (λ p.
    both_ways (has pair_cmp pairs p) (has pair_cmp others p)
    (λ h. has-from_member pair_total pairs_apart others p ((same p).0 (member-from_has pair_total pairs_apart pairs p h)))
    (λ h. has-from_member pair_total pairs_apart pairs p ((same p).1 (member-from_has pair_total pairs_apart others p h))))

pub works_of-permutation : (pairs others : List (List ℕ × RecordId)) → IsPermutation pairs others → works_of pairs ≡ works_of others
works_of-permutation pairs others moved = works_of-same pairs others (λ p. list_any-IsPermutation (eq_by_cmp pair_cmp p) pairs others moved)

-- ---- a change

one_of : (a g c : Bool) → a ≡ true → (g ≡ true → ⊥) → ((a && not g) || c) ≡ true
one_of true true c h none = absurd (none refl)
one_of true false c h none = refl
one_of false g c h none = cc

come_of : (a c : Bool) → c ≡ true → (a || c) ≡ true
come_of true c h = refl
come_of false c h = h

stayed : (a g : Bool) → (a && not g) ≡ true → (a ≡ true) × (g ≡ false)
stayed true true h = cc
stayed true false h = (refl, refl)
stayed false g h = cc

pub changed-members : (pairs gone come after : List (List ℕ × RecordId)) → AreAfter pairs gone come after → changed (works_of pairs) gone come ≡ works_of after
changed-members pairs gone come after same = changed-works_of pairs gone come after (λ p.
    both_ways (has pair_cmp after p) ((has pair_cmp pairs p && not (has pair_cmp gone p)) || has pair_cmp come p)
    (λ h. elim ((same p).0 (member-from_has pair_total pairs_apart after p h)) [
      | inl kept ↦ one_of (has pair_cmp pairs p) (has pair_cmp gone p) (has pair_cmp come p) (has-from_member pair_total pairs_apart pairs p kept.0) (λ g. kept.1 (member-from_has pair_total pairs_apart gone p g))
      | inr new ↦ come_of (has pair_cmp pairs p && not (has pair_cmp gone p)) (has pair_cmp come p) (has-from_member pair_total pairs_apart come p new)
    ])
    (λ h. has-from_member pair_total pairs_apart after p ((same p).1 (elim (either (has pair_cmp pairs p && not (has pair_cmp gone p)) (has pair_cmp come p) h) [
      | inl kept ↦
          let parts = stayed (has pair_cmp pairs p) (has pair_cmp gone p) kept in
          inl (member-from_has pair_total pairs_apart pairs p parts.0, λ g. let clash : true ≡ false = sym (has-from_member pair_total pairs_apart gone p g) ∙ parts.1 in cc)
      | inr new ↦ inr (member-from_has pair_total pairs_apart come p new)
    ]))))

pub changed-nothing : (come : List (List ℕ × RecordId)) → changed [] [] come ≡ works_of come
changed-nothing come = refl

-- ---- what is read of works

pub members-ids_under : (pairs : List (List ℕ × RecordId)) (key : List ℕ) (id : RecordId) → Contains (ids_under (works_of pairs) key) id ↔ Contains pairs (key, id)
members-ids_under pairs key id =
    let same : has id_cmp (ids_under (works_of pairs) key) id ≡ has pair_cmp pairs (key, id) = ap (λ ids. has id_cmp ids id) (ids_under-works_of pairs key) ∙ has-ids_with pairs key id in (
      λ m. member-from_has pair_total pairs_apart pairs (key, id) (sym same ∙ has-from_member id_total ids_apart (ids_under (works_of pairs) key) id m),
      λ m. member-from_has id_total ids_apart (ids_under (works_of pairs) key) id (same ∙ has-from_member pair_total pairs_apart pairs (key, id) m),
    )

pub ascending-ids_under : (pairs : List (List ℕ × RecordId)) (key : List ℕ) → is_ascending id_cmp (ids_under (works_of pairs) key) ≡ true
ascending-ids_under pairs key = ap (is_ascending id_cmp) (ids_under-works_of pairs key) ∙ is_ascending-ids_with pairs key

pub ascending-keys_of : (pairs : List (List ℕ × RecordId)) → is_ascending key_cmp (keys_of (works_of pairs)) ≡ true
ascending-keys_of pairs = ap (is_ascending key_cmp) (keys_of-works_of pairs) ∙ is_ascending-keys_in pairs

-- ---- a walk along the keys

pub key_after-none : (works : List (List ℕ × List RecordId)) → key_after works None ≡ first_of_list (keys_of works)
key_after-none [] = refl
key_after-none (w ∷ ws) = refl

not_above : (r : Ordering) → is_lt r ≡ true → is_lt (ordering_reverse r) ≡ false
not_above Less h = refl
not_above Equal h = cc
not_above Greater h = cc

not_itself : (r : Ordering) → is_eq r ≡ true → is_lt r ≡ false
not_itself Less h = cc
not_itself Equal h = refl
not_itself Greater h = cc

next_key : (front : List (List ℕ)) (key : List ℕ) (rest : List (List ℕ)) → is_ascending key_cmp (front ++ key ∷ rest) ≡ true → find (is_above (Some key)) (front ++ key ∷ rest) ≡ first_of_list rest
next_key [] key [] h = ap (λ b. cond b (Some key) None) (not_itself (key_cmp key key) (itself key_total texts_apart key))
next_key [] key (r ∷ rest) h =
    let parts = both_true (list_all (λ y. is_lt (key_cmp key y)) (r ∷ rest)) (is_ascending key_cmp (r ∷ rest)) h in
    let above = both_true (is_lt (key_cmp key r)) (list_all (λ y. is_lt (key_cmp key y)) rest) parts.0 in
    ap (λ b. cond b (Some key) (find (is_above (Some key)) (r ∷ rest))) (not_itself (key_cmp key key) (itself key_total texts_apart key))
    ∙ ap (λ b. cond b (Some r) (find (is_above (Some key)) rest)) above.0
next_key (f ∷ front) key rest h =
    let parts = both_true (list_all (λ y. is_lt (key_cmp f y)) (front ++ key ∷ rest)) (is_ascending key_cmp (front ++ key ∷ rest)) h in
    let split : list_all (λ y. is_lt (key_cmp f y)) front && (is_lt (key_cmp f key) && list_all (λ y. is_lt (key_cmp f y)) rest) ≡ true =
    sym (list_all-append (λ y. is_lt (key_cmp f y)) front (key ∷ rest)) ∙ parts.0 in
    let below = (both_true (is_lt (key_cmp f key)) _ (both_true (list_all (λ y. is_lt (key_cmp f y)) front) _ split).1).0 in
    ap (λ b. cond b (Some f) (find (is_above (Some key)) (front ++ key ∷ rest))) (ap is_lt (key_total.antisymm key f) ∙ not_above (key_cmp f key) below)
    ∙ next_key front key rest parts.1

pub key_after-some : (pairs : List (List ℕ × RecordId)) (front : List (List ℕ)) (key : List ℕ) (rest : List (List ℕ)) → keys_of (works_of pairs) ≡ front ++ key ∷ rest
    → key_after (works_of pairs) (Some key) ≡ first_of_list rest
key_after-some pairs front key rest e =
    ap (find (is_above (Some key))) e ∙ next_key front key rest (ap (is_ascending key_cmp) (sym e) ∙ ascending-keys_of pairs)
