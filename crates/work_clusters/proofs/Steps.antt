-- What the steps of a change make of works: one pair, then many.
use Rattle.std.proofs.Common.{◌≡◌, ℕ, ◌+◌, ◌<◌, ◌≤◌, Bool, true, false, cond, not, ◌&&◌, ◌||◌, List, [], ◌∷◌, ◌++◌, refl, sym, subst, ap, ◌∙◌, arith}
use Rattle.std.specs.Prelude.{unwrap_or, Option, Some, None, count_by}
use Rattle.std.specs.Option.{option_map}
use Rattle.std.specs.declared.cmp.Ordering.{Ordering}
use Rattle.std.specs.declared.cmp.Ordering.TheVariants.{Less, Equal, Greater}
use Rattle.std.specs.Ordering.{is_eq, eq_by_cmp, ordering_reverse}
use Rattle.std.specs.Map.{lookup}
use Rattle.std.specs.BTreeMap.{BTreeMap, WritesThrough}
use Rattle.std.proofs.lemmas.List.Folds.{list_any-append}
use Rattle.std.proofs.lemmas.List.Sums.{sum_by-append}
use Rattle.union_base.specs.IdLaws.{ids_apart}
use Rattle.union_base.specs.Ties.{texts_apart}
use Rattle.union_base.specs.SortedLists.{put, has}
use Rattle.union_base.specs.declared.record_id.RecordId.{RecordId}
use Rattle.union_base.proofs.SortedListLaws.{has-put}
use Rattle.work_clusters.specs.Works.{key_cmp, pair_cmp, is_key, ids_under, pairs_of, without, changed, AreWorks}
use Rattle.union_base.specs.RecordIds.{id_cmp}
use Rattle.work_clusters.proofs.WorksLaws.{id_total, key_total, itself, has-filter, then_eq, or_false, works-from_ids, has-after}
use Rattle.work_clusters.specs.Room.{WorkMap, HasRoomForPairs, room_under}
use Rattle.work_clusters.specs.Entries.{Kept, works_in, room_in, AreEntries}
use Rattle.work_clusters.specs.Steps.{TakesOut, PutsIn}
use Rattle.work_clusters.proofs.IdLists.{but}
use Rattle.work_clusters.proofs.Reading.{same_both_ways, ids_read, room_read}
use Rattle.work_clusters.proofs.Writing.{IsWrite, is_write}

-- ---- tests

and_true : (a : Bool) → (a && true) ≡ a
and_true true = refl
and_true false = refl

or_swap : (a b : Bool) → (a || b) ≡ (b || a)
or_swap true true = refl
or_swap true false = refl
or_swap false b = sym (or_false b)

neither : (a b c : Bool) → ((a && not b) && not c) ≡ (a && not (b || c))
neither true true c = refl
neither true false c = refl
neither false b c = refl

or_or : (a b c : Bool) → ((a || b) || c) ≡ (a || (b || c))
or_or true b c = refl
or_or false b c = refl

eq_both : (x y : RecordId) → eq_by_cmp id_cmp x y ≡ eq_by_cmp id_cmp y x
eq_both x y = ap is_eq (id_total.antisymm x y) ∙ elim (id_cmp y x) as (λ r. is_eq (ordering_reverse r) ≡ is_eq r) [ Less ↦ refl | Equal ↦ refl | Greater ↦ refl ]

-- a pair alone is at its key, with its id
has_one : (key : List ℕ) (id : RecordId) (q : List ℕ) (j : RecordId) → has pair_cmp ((key, id) ∷ []) (q, j) ≡ (is_key key q && eq_by_cmp id_cmp j id)
has_one key id q j = or_false (eq_by_cmp pair_cmp (q, j) (key, id)) ∙ then_eq (key_cmp q key) (id_cmp j id) ∙ ap (λ b. b && eq_by_cmp id_cmp j id) (same_both_ways q key)

has-more : (xs : List (List ℕ × RecordId)) (x p : List ℕ × RecordId) → has pair_cmp (xs ++ x ∷ []) p ≡ (has pair_cmp xs p || has pair_cmp (x ∷ []) p)
has-more xs x p = list_any-append (eq_by_cmp pair_cmp p) xs (x ∷ [])

-- works and their room, as contracts see the entries
abbrev pub seen : List (List ℕ × Kept) → WorkMap
seen es = record { works = works_in es; room = room_in es }

-- ---- one pair

same_key : (key q : List ℕ) → is_key key q ≡ true → key ≡ q
same_key key q e = texts_apart key q (tied (key_cmp key q) e)
  where
    tied : (r : Ordering) → is_eq r ≡ true → r ≡ Equal
    tied Less h = cc
    tied Equal h = refl
    tied Greater h = cc

read_cond : {X : Type 0} (f : Kept → X) (d : X) (b : Bool) (work : Kept) (o : Option Kept) → unwrap_or (option_map f (cond b (Some work) o)) d ≡ cond b (f work) (unwrap_or (option_map f o) d)
read_cond f d true work o = refl
read_cond f d false work o = refl

module _ (m n : BTreeMap (List ℕ) Kept) (key : List ℕ) (old work : Kept) (write : WritesThrough key_cmp (key_cmp key) m work n) (at : Some old ≡ lookup (is_key key) m.entries) (well : AreEntries m.entries) (then : AreEntries n.entries) where
  here : {X : Type 0} (f : Kept → X) (d : X) (q : List ℕ) → is_key key q ≡ true → unwrap_or (option_map f (lookup (is_key q) m.entries)) d ≡ f old
  here f d q e = ap (λ k. unwrap_or (option_map f (lookup (is_key k) m.entries)) d) (sym (same_key key q e)) ∙ ap (λ o. unwrap_or (option_map f o) d) (sym at)

  ids_then : (q : List ℕ) → ids_under (works_in n.entries) q ≡ cond (is_key key q) work.ids (ids_under (works_in m.entries) q)
  ids_then q =
      ids_read n.entries then q ∙ ap (λ o. unwrap_or (option_map (λ w. w.ids) o) []) (is_write m n key old work write at q) ∙ read_cond (λ w. w.ids) [] (is_key key q) work (lookup (is_key q) m.entries)
      ∙ ap (cond (is_key key q) work.ids) (sym (ids_read m.entries well q))

  room_then : (q : List ℕ) → room_under (room_in n.entries) q ≡ cond (is_key key q) work.room (room_under (room_in m.entries) q)
  room_then q =
      room_read n.entries q ∙ ap (λ o. unwrap_or (option_map (λ w. w.room) o) 0) (is_write m n key old work write at q) ∙ read_cond (λ w. w.room) 0 (is_key key q) work (lookup (is_key q) m.entries)
      ∙ ap (cond (is_key key q) work.room) (sym (room_read m.entries q))

  ids_here : (q : List ℕ) → is_key key q ≡ true → ids_under (works_in m.entries) q ≡ old.ids
  ids_here q e = ids_read m.entries well q ∙ here (λ w. w.ids) [] q e

  room_here : (q : List ℕ) → is_key key q ≡ true → room_under (room_in m.entries) q ≡ old.room
  room_here q e = room_read m.entries q ∙ here (λ w. w.room) 0 q e

  -- the id leaves its key's entry
  pub takes_out_at : (id : RecordId) → work.ids ≡ but id_total ids_apart id old.ids → work.room ≡ old.room → TakesOut (seen m.entries) (seen n.entries) ((key, id) ∷ [])
  takes_out_at id items room = record {
    left = λ q j.
        ap (λ ids. has id_cmp ids j) (ids_then q)
        ∙ elim (is_key key q) as (λ b. is_key key q ≡ b → has id_cmp (cond b work.ids (ids_under (works_in m.entries) q)) j ≡ (has id_cmp (ids_under (works_in m.entries) q) j && not (b && eq_by_cmp id_cmp j id))) [
          | true ↦ λ e.
              ap (λ ids. has id_cmp ids j) items ∙ has-filter id_total ids_apart (λ x. not (eq_by_cmp id_cmp id x)) old.ids j
              ∙ ap (λ b. has id_cmp old.ids j && not b) (eq_both id j) ∙ ap (λ ids. has id_cmp ids j && not (eq_by_cmp id_cmp j id)) (sym (ids_here q e))
          | false ↦ λ e. sym (and_true (has id_cmp (ids_under (works_in m.entries) q) j))
        ] refl
        ∙ ap (λ b. has id_cmp (ids_under (works_in m.entries) q) j && not b) (sym (has_one key id q j));
    room = λ q. subst (λ n. room_under (room_in m.entries) q ≤ n) (sym (room_then q))
        (elim (is_key key q) as (λ b. is_key key q ≡ b → room_under (room_in m.entries) q ≤ cond b work.room (room_under (room_in m.entries) q)) [
          | true ↦ λ e. omega (arith, room_here q e)
          | false ↦ λ e. omega arith
        ] refl);
  }

  -- the id enters its key's entry
  pub puts_in_at : (id : RecordId) → work.ids ≡ put id_cmp id old.ids → work.room + 1 ≡ old.room → PutsIn (seen m.entries) (seen n.entries) ((key, id) ∷ [])
  puts_in_at id items room = record {
    entered = λ q j.
        ap (λ ids. has id_cmp ids j) (ids_then q)
        ∙ elim (is_key key q) as (λ b. is_key key q ≡ b → has id_cmp (cond b work.ids (ids_under (works_in m.entries) q)) j ≡ (has id_cmp (ids_under (works_in m.entries) q) j || (b && eq_by_cmp id_cmp j id))) [
          | true ↦ λ e.
              ap (λ ids. has id_cmp ids j) items ∙ has-put id_total id old.ids j ∙ or_swap (eq_by_cmp id_cmp j id) (has id_cmp old.ids j)
              ∙ ap (λ ids. has id_cmp ids j || eq_by_cmp id_cmp j id) (sym (ids_here q e))
          | false ↦ λ e. sym (or_false (has id_cmp (ids_under (works_in m.entries) q) j))
        ] refl
        ∙ ap (λ b. has id_cmp (ids_under (works_in m.entries) q) j || b) (sym (has_one key id q j));
    room = λ q. subst (λ n. room_under (room_in m.entries) q ≤ n + count_by (λ (p : List ℕ × RecordId). is_key q p.0) ((key, id) ∷ [])) (sym (room_then q))
        (subst (λ b. room_under (room_in m.entries) q ≤ cond (is_key key q) work.room (room_under (room_in m.entries) q) + (0 + cond b 1 0)) (sym (same_both_ways q key))
        (elim (is_key key q) as (λ b. is_key key q ≡ b → room_under (room_in m.entries) q ≤ cond b work.room (room_under (room_in m.entries) q) + (0 + cond b 1 0)) [
          | true ↦ λ e. omega (arith, room_here q e)
          | false ↦ λ e. omega arith
        ] refl));
  }

  -- the key's entry has room for one id more, and no other has less
  pub room_more : work.room ≡ old.room + 1 → (q : List ℕ) → room_under (room_in m.entries) q + cond (is_key q key) 1 0 ≤ room_under (room_in n.entries) q
  room_more room q = subst (λ n. room_under (room_in m.entries) q + cond (is_key q key) 1 0 ≤ n) (sym (room_then q))
      (subst (λ b. room_under (room_in m.entries) q + cond b 1 0 ≤ cond (is_key key q) work.room (room_under (room_in m.entries) q)) (sym (same_both_ways q key))
      (elim (is_key key q) as (λ b. is_key key q ≡ b → room_under (room_in m.entries) q + cond b 1 0 ≤ cond b work.room (room_under (room_in m.entries) q)) [
        | true ↦ λ e. omega (arith, room_here q e)
        | false ↦ λ e. omega arith
      ] refl))

-- where there is room, an entry has it
pub room_at : (es : List (List ℕ × Kept)) (key : List ℕ) (old : Kept) → Some old ≡ lookup (is_key key) es → room_under (room_in es) key ≡ old.room
room_at es key old at = room_read es key ∙ ap (λ o. unwrap_or (option_map (λ w. w.room) o) 0) (sym at)

pub no_room : (es : List (List ℕ × Kept)) (key : List ℕ) → lookup (is_key key) es ≡ None → room_under (room_in es) key ≡ 0
no_room es key at = room_read es key ∙ ap (λ o. unwrap_or (option_map (λ w. w.room) o) 0) at

-- a new entry has its room, and the rest stays
pub room_new : (es new : List (List ℕ × Kept)) (key : List ℕ) (work : Kept) → lookup (is_key key) es ≡ None → IsWrite es new key work → work.room ≡ 1
    → (q : List ℕ) → room_under (room_in es) q + cond (is_key q key) 1 0 ≤ room_under (room_in new) q
room_new es new key work at write room q =
    let then = room_read new q ∙ ap (λ o. unwrap_or (option_map (λ w. w.room) o) 0) (write q) ∙ read_cond (λ w. w.room) 0 (is_key key q) work (lookup (is_key q) es) ∙ ap (cond (is_key key q) work.room) (sym (room_read es q)) in
    subst (λ n. room_under (room_in es) q + cond (is_key q key) 1 0 ≤ n) (sym then)
    (subst (λ b. room_under (room_in es) q + cond b 1 0 ≤ cond (is_key key q) work.room (room_under (room_in es) q)) (sym (same_both_ways q key))
    (elim (is_key key q) as (λ b. is_key key q ≡ b → room_under (room_in es) q + cond b 1 0 ≤ cond b work.room (room_under (room_in es) q)) [
      | true ↦ λ e. omega (arith, ap (λ k. room_under (room_in es) k) (sym (same_key key q e)) ∙ no_room es key at)
      | false ↦ λ e. omega arith
    ] refl))

-- a pair whose key is absent leaves nothing
pub takes_out_gap : (es : List (List ℕ × Kept)) → AreEntries es → (key : List ℕ) → lookup (is_key key) es ≡ None → (id : RecordId) → TakesOut (seen es) (seen es) ((key, id) ∷ [])
takes_out_gap es well key at id = record {
  left = λ q j.
      elim (is_key key q) as (λ b. is_key key q ≡ b → has id_cmp (ids_under (works_in es) q) j ≡ (has id_cmp (ids_under (works_in es) q) j && not (b && eq_by_cmp id_cmp j id))) [
        | true ↦ λ e.
            let none : ids_under (works_in es) q ≡ [] = ids_read es well q ∙ ap (λ k. unwrap_or (option_map (λ w. w.ids) (lookup (is_key k) es)) []) (sym (same_key key q e)) ∙ ap (λ o. unwrap_or (option_map (λ w. w.ids) o) []) at in
            ap (λ ids. has id_cmp ids j) none ∙ sym (ap (λ ids. has id_cmp ids j && not (eq_by_cmp id_cmp j id)) none)
        | false ↦ λ e. sym (and_true (has id_cmp (ids_under (works_in es) q) j))
      ] refl
      ∙ ap (λ b. has id_cmp (ids_under (works_in es) q) j && not b) (sym (has_one key id q j));
  room = λ q. omega arith;
}

-- ---- many pairs

pub takes_out_none : (w : WorkMap) → TakesOut w w []
takes_out_none w = record { left = λ q j. sym (and_true (has id_cmp (ids_under w.works q) j)); room = λ q. omega arith }

pub takes_out_more : (a b c : WorkMap) (xs : List (List ℕ × RecordId)) (x : List ℕ × RecordId) → TakesOut a b xs → TakesOut b c (x ∷ []) → TakesOut a c (xs ++ x ∷ [])
takes_out_more a b c xs x first then = record {
  left = λ q j.
      then.left q j ∙ ap (λ t. t && not (has pair_cmp (x ∷ []) (q, j))) (first.left q j)
      ∙ neither (has id_cmp (ids_under a.works q) j) (has pair_cmp xs (q, j)) (has pair_cmp (x ∷ []) (q, j))
      ∙ ap (λ t. has id_cmp (ids_under a.works q) j && not t) (sym (has-more xs x (q, j)));
  room = λ q. omega (arith, first.room q, then.room q);
}

pub puts_in_none : (w : WorkMap) → PutsIn w w []
puts_in_none w = record { entered = λ q j. sym (or_false (has id_cmp (ids_under w.works q) j)); room = λ q. omega arith }

pub puts_in_more : (a b c : WorkMap) (xs : List (List ℕ × RecordId)) (x : List ℕ × RecordId) → PutsIn a b xs → PutsIn b c (x ∷ []) → PutsIn a c (xs ++ x ∷ [])
puts_in_more a b c xs x first then = record {
  entered = λ q j.
      then.entered q j ∙ ap (λ t. t || has pair_cmp (x ∷ []) (q, j)) (first.entered q j)
      ∙ or_or (has id_cmp (ids_under a.works q) j) (has pair_cmp xs (q, j)) (has pair_cmp (x ∷ []) (q, j))
      ∙ ap (λ t. has id_cmp (ids_under a.works q) j || t) (sym (has-more xs x (q, j)));
  room = λ q. omega (arith, first.room q, then.room q, sum_by-append (λ (p : List ℕ × RecordId). cond (is_key q p.0) 1 0) xs (x ∷ []));
}

-- room for pairs is room for the first of them
pub room_first : (w : WorkMap) (key : List ℕ) (id : RecordId) (rest : List (List ℕ × RecordId)) → HasRoomForPairs w.room ((key, id) ∷ rest) → 0 < room_under w.room key
room_first w key id rest h =
    let one : count_by (λ (p : List ℕ × RecordId). is_key key p.0) ((key, id) ∷ []) ≡ 1 = ap (λ b. 0 + cond b 1 0) (itself key_total texts_apart key) in
    omega (arith, h key, one, sum_by-append (λ (p : List ℕ × RecordId). cond (is_key key p.0) 1 0) ((key, id) ∷ []) rest)

-- and once the first has entered, it is room for the rest
pub room_rest : (a b : WorkMap) (x : List ℕ × RecordId) (rest : List (List ℕ × RecordId)) → HasRoomForPairs a.room (x ∷ rest) → PutsIn a b (x ∷ []) → HasRoomForPairs b.room rest
room_rest a b x rest h step = λ q. omega (arith, h q, step.room q, sum_by-append (λ (p : List ℕ × RecordId). cond (is_key q p.0) 1 0) (x ∷ []) rest)

-- ---- a whole change

-- the gone pairs leave, then the come pairs enter: this is the change of the works
pub changed_from_steps : (old mid new : WorkMap) (gone come : List (List ℕ × RecordId)) → AreWorks old.works → AreWorks new.works → TakesOut old mid gone → PutsIn mid new come → new.works ≡ changed old.works gone come
changed_from_steps old mid new gone come well then out in_ =
    works-from_ids new.works then (without gone (pairs_of old.works) ++ come) (λ q id.
    in_.entered q id ∙ ap (λ b. b || has pair_cmp come (q, id)) (out.left q id)
    ∙ sym (has-after old.works gone come well.keys q id))

-- where no works are, nothing leaves
pub takes_out_of_none : (w : WorkMap) (gone : List (List ℕ × RecordId)) → w.works ≡ [] → TakesOut w w gone
takes_out_of_none w gone none = record {
  left = λ q j. ap (λ works. has id_cmp (ids_under works q) j) none ∙ sym (ap (λ works. has id_cmp (ids_under works q) j && not (has pair_cmp gone (q, j))) none);
  room = λ q. omega arith;
}

-- one pair more, for which there is room
pub room_counted : (a b c : List (List ℕ × ℕ)) (xs : List (List ℕ × RecordId)) (x : List ℕ × RecordId) → ((q : List ℕ) → room_under a q + count_by (λ p. is_key q p.0) xs ≤ room_under b q)
    → ((q : List ℕ) → room_under b q + cond (is_key q x.0) 1 0 ≤ room_under c q) → (q : List ℕ) → room_under a q + count_by (λ p. is_key q p.0) (xs ++ x ∷ []) ≤ room_under c q
room_counted a b c xs x first then q = omega (arith, first q, then q, sum_by-append (λ (p : List ℕ × RecordId). cond (is_key q p.0) 1 0) xs (x ∷ []))
