-- What a write, an insertion or a removal at one key makes of entries.
use Rattle.std.proofs.Common.{◌≡◌, ℕ, ◌+◌, Bool, true, false, cond, not, ◌&&◌, List, [], ◌∷◌, length, refl, sym, subst, ap, ◌∙◌, arith}
use Rattle.std.specs.Prelude.{filter, Some, None, IsSome}
use Rattle.std.specs.declared.cmp.Ordering.TheVariants.{Less, Equal, Greater}
use Rattle.std.specs.Ordering.{is_eq, match_ordering}
use Rattle.std.specs.List.{list_all}
use Rattle.std.specs.List.Sorted.{IsStrictlySortedBy}
use Rattle.std.specs.BTreeMap.{BTreeMap, WritesThrough, insert_entry}
use Rattle.std.specs.Map.{lookup, set_value, remove_entry}
use Rattle.std.specs.Map as std_map
use Rattle.union_base.specs.Both.{both_true, true_both}
use Rattle.union_base.specs.SortedLists.{is_ascending, put}
use Rattle.union_base.specs.declared.record_id.RecordId.{RecordId}
use Rattle.work_clusters.specs.Works.{key_cmp, is_key, some}
use Rattle.union_base.specs.RecordIds.{id_cmp}
use Rattle.work_clusters.specs.Entries.{Kept, listed, works_in, AreCounted}
use Rattle.work_clusters.proofs.Reading.{ascending-from_ordered}

-- ---- the lists of ids stay in order

abbrev all_ids : List (List ℕ × Kept) → Bool
all_ids es = list_all (λ work. is_ascending id_cmp work.1) (listed es)

ids-set_value : (test : List ℕ → Bool) (es : List (List ℕ × Kept)) (work : Kept) → all_ids es ≡ true → is_ascending id_cmp work.ids ≡ true → all_ids (set_value test es work) ≡ true
ids-set_value test [] work h a = refl
ids-set_value test (e ∷ es) work h a =
    let parts = both_true (is_ascending id_cmp e.1.ids) (all_ids es) h in
    elim (test e.0) as (λ b. all_ids (cond b ((e.0, work) ∷ es) (e ∷ set_value test es work)) ≡ true) [
      | true ↦ true_both (is_ascending id_cmp work.ids) (all_ids es) a parts.1
      | false ↦ true_both (is_ascending id_cmp e.1.ids) (all_ids (set_value test es work)) parts.0 (ids-set_value test es work parts.1 a)
    ]

ids-insert_entry : (key : List ℕ) (es : List (List ℕ × Kept)) (work : Kept) → all_ids es ≡ true → is_ascending id_cmp work.ids ≡ true → all_ids (insert_entry key_cmp es key work) ≡ true
ids-insert_entry key [] work h a = true_both (is_ascending id_cmp work.ids) true a refl
ids-insert_entry key (e ∷ es) work h a =
    let parts = both_true (is_ascending id_cmp e.1.ids) (all_ids es) h in
    elim (key_cmp key e.0) as (λ r. all_ids (match_ordering r ((key, work) ∷ e ∷ es) ((e.0, work) ∷ es) (e ∷ insert_entry key_cmp es key work)) ≡ true) [
      | Less ↦ true_both (is_ascending id_cmp work.ids) (all_ids (e ∷ es)) a h
      | Equal ↦ true_both (is_ascending id_cmp work.ids) (all_ids es) a parts.1
      | Greater ↦ true_both (is_ascending id_cmp e.1.ids) (all_ids (insert_entry key_cmp es key work)) parts.0 (ids-insert_entry key es work parts.1 a)
    ]

ids-remove_entry : (test : List ℕ → Bool) (es : List (List ℕ × Kept)) → all_ids es ≡ true → all_ids (remove_entry test es) ≡ true
ids-remove_entry test [] h = refl
ids-remove_entry test (e ∷ es) h =
    let parts = both_true (is_ascending id_cmp e.1.ids) (all_ids es) h in
    elim (test e.0) as (λ b. all_ids (cond b es (e ∷ remove_entry test es)) ≡ true) [
      | true ↦ parts.1
      | false ↦ true_both (is_ascending id_cmp e.1.ids) (all_ids (remove_entry test es)) parts.0 (ids-remove_entry test es parts.1)
    ]

-- ---- the works

-- where the ids of a key stay, the works stay
pub works-set_value : (test : List ℕ → Bool) (es : List (List ℕ × Kept)) (old work : Kept) → lookup test es ≡ Some old → work.ids ≡ old.ids → works_in (set_value test es work) ≡ works_in es
works-set_value test [] old work e same = refl
works-set_value test (x ∷ es) old work e same =
    elim (test x.0) as (λ b. cond b (Some x.1) (lookup test es) ≡ Some old → works_in (cond b ((x.0, work) ∷ es) (x ∷ set_value test es work)) ≡ works_in (x ∷ es)) [
      | true ↦ λ at. let here : x.1 ≡ old = cc in ap (λ ids. cond (some ids) ((x.0, ids) ∷ works_in es) (works_in es)) (same ∙ ap (λ (w : Kept). w.ids) (sym here))
      | false ↦ λ at. ap (λ rest. cond (some x.1.ids) ((x.0, x.1.ids) ∷ rest) rest) (works-set_value test es old work at same)
    ] e

-- a new entry with no ids adds no work
pub works-insert_entry : (key : List ℕ) (es : List (List ℕ × Kept)) (work : Kept) → lookup (is_key key) es ≡ None → work.ids ≡ [] → works_in (insert_entry key_cmp es key work) ≡ works_in es
works-insert_entry key [] work e none = ap (λ ids. cond (some ids) ((key, ids) ∷ []) []) none
works-insert_entry key (x ∷ es) work e none =
    elim (key_cmp key x.0) as (λ r. cond (is_eq r) (Some x.1) (lookup (is_key key) es) ≡ None → works_in (match_ordering r ((key, work) ∷ x ∷ es) ((x.0, work) ∷ es) (x ∷ insert_entry key_cmp es key work)) ≡ works_in (x ∷ es)) [
      | Less ↦ λ at. ap (λ ids. cond (some ids) ((key, ids) ∷ works_in (x ∷ es)) (works_in (x ∷ es))) none
      | Equal ↦ λ at. cc
      | Greater ↦ λ at. ap (λ rest. cond (some x.1.ids) ((x.0, x.1.ids) ∷ rest) rest) (works-insert_entry key es work at none)
    ] e

-- an entry with no ids may go
pub works-remove_entry : (test : List ℕ → Bool) (es : List (List ℕ × Kept)) (old : Kept) → lookup test es ≡ Some old → some old.ids ≡ false → works_in (remove_entry test es) ≡ works_in es
works-remove_entry test [] old e none = refl
works-remove_entry test (x ∷ es) old e none =
    elim (test x.0) as (λ b. cond b (Some x.1) (lookup test es) ≡ Some old → works_in (cond b es (x ∷ remove_entry test es)) ≡ works_in (x ∷ es)) [
      | true ↦ λ at. let here : x.1 ≡ old = cc in ap (λ b. cond b ((x.0, x.1.ids) ∷ works_in es) (works_in es)) (sym (ap (λ (w : Kept). some w.ids) here ∙ none))
      | false ↦ λ at. ap (λ rest. cond (some x.1.ids) ((x.0, x.1.ids) ∷ rest) rest) (works-remove_entry test es old at none)
    ] e

abbrev pub one_if : Bool → ℕ
one_if b = cond b 1 0

length-with : (b : Bool) (w : List ℕ × List RecordId) (rest : List (List ℕ × List RecordId)) → length (cond b (w ∷ rest) rest) ≡ length rest + one_if b
length-with true w rest = omega arith
length-with false w rest = omega arith

-- how the number of works changes
pub count-set_value : (test : List ℕ → Bool) (es : List (List ℕ × Kept)) (old work : Kept) → lookup test es ≡ Some old
    → length (works_in (set_value test es work)) + one_if (some old.ids) ≡ length (works_in es) + one_if (some work.ids)
count-set_value test [] old work e = cc
count-set_value test (x ∷ es) old work e =
    elim (test x.0) as (λ b. cond b (Some x.1) (lookup test es) ≡ Some old → length (works_in (cond b ((x.0, work) ∷ es) (x ∷ set_value test es work))) + one_if (some old.ids) ≡ length (works_in (x ∷ es)) + one_if (some work.ids)) [
      | true ↦ λ at.
          let here : x.1 ≡ old = cc in
          let same : one_if (some x.1.ids) ≡ one_if (some old.ids) = ap (λ (w : Kept). one_if (some w.ids)) here in
          omega (arith, same, length-with (some work.ids) (x.0, work.ids) (works_in es), length-with (some x.1.ids) (x.0, x.1.ids) (works_in es))
      | false ↦ λ at.
          omega (arith, count-set_value test es old work at, length-with (some x.1.ids) (x.0, x.1.ids) (works_in (set_value test es work)), length-with (some x.1.ids) (x.0, x.1.ids) (works_in es))
    ] e

-- ---- entries that are counted

pub counted-set_value : (test : List ℕ → Bool) (es new : List (List ℕ × Kept)) (old work : Kept) (filled then : ℕ) → AreCounted es filled → lookup test es ≡ Some old
    → new ≡ set_value test es work → IsStrictlySortedBy key_cmp (std_map.keys_of new) → is_ascending id_cmp work.ids ≡ true
    → then + one_if (some old.ids) ≡ filled + one_if (some work.ids) → AreCounted new then
counted-set_value test es new old work filled then c at e sorted ascending count = record {
  well = record {
    keys = ascending-from_ordered new sorted;
    ids = ap (λ es. list_all (λ work. is_ascending id_cmp work.1) (listed es)) e ∙ ids-set_value test es work c.well.ids ascending;
  };
  count = let same : length (works_in new) ≡ length (works_in (set_value test es work)) = ap (λ es. length (works_in es)) e in
      omega (arith, same, c.count, count, count-set_value test es old work at);
}

pub counted-insert_entry : (key : List ℕ) (es new : List (List ℕ × Kept)) (work : Kept) (filled : ℕ) → AreCounted es filled → lookup (is_key key) es ≡ None
    → new ≡ insert_entry key_cmp es key work → IsStrictlySortedBy key_cmp (std_map.keys_of new) → work.ids ≡ [] → AreCounted new filled
counted-insert_entry key es new work filled c at e sorted none = record {
  well = record {
    keys = ascending-from_ordered new sorted;
    ids = ap (λ es. list_all (λ work. is_ascending id_cmp work.1) (listed es)) e ∙ ids-insert_entry key es work c.well.ids (ap (is_ascending id_cmp) none);
  };
  count = c.count ∙ ap length (sym (ap works_in e ∙ works-insert_entry key es work at none));
}

pub counted-remove_entry : (test : List ℕ → Bool) (es new : List (List ℕ × Kept)) (old : Kept) (filled : ℕ) → AreCounted es filled → lookup test es ≡ Some old
    → new ≡ remove_entry test es → IsStrictlySortedBy key_cmp (std_map.keys_of new) → some old.ids ≡ false → AreCounted new filled
counted-remove_entry test es new old filled c at e sorted none = record {
  well = record {
    keys = ascending-from_ordered new sorted;
    ids = ap (λ es. list_all (λ work. is_ascending id_cmp work.1) (listed es)) e ∙ ids-remove_entry test es c.well.ids;
  };
  count = c.count ∙ ap length (sym (ap works_in e ∙ works-remove_entry test es old at none));
}

-- ---- what a write through a loan makes of the map

-- the entries have the work at the key, and are else as before
abbrev pub IsWrite : List (List ℕ × Kept) → List (List ℕ × Kept) → List ℕ → Kept → Type 0
IsWrite es new key work = (q : List ℕ) → lookup (is_key q) new ≡ cond (is_key key q) (Some work) (lookup (is_key q) es)

module _ (m n : BTreeMap (List ℕ) Kept) (key : List ℕ) (old work : Kept) (write : WritesThrough key_cmp (key_cmp key) m work n) (at : Some old ≡ lookup (is_key key) m.entries) where
  pub is_write : IsWrite m.entries n.entries key work
  is_write = (write.3 (subst IsSome at refl)).0

  pub works-write : work.ids ≡ old.ids → works_in n.entries ≡ works_in m.entries
  works-write same = ap works_in write.0 ∙ works-set_value (is_key key) m.entries old work (sym at) same

  pub count-write : length (works_in n.entries) + one_if (some old.ids) ≡ length (works_in m.entries) + one_if (some work.ids)
  count-write = ap (λ es. length (works_in es) + one_if (some old.ids)) write.0 ∙ count-set_value (is_key key) m.entries old work (sym at)

  pub counted-write : (filled then : ℕ) → AreCounted m.entries filled → is_ascending id_cmp work.ids ≡ true → then + one_if (some old.ids) ≡ filled + one_if (some work.ids) → AreCounted n.entries then
  counted-write filled then c ascending count = counted-set_value (is_key key) m.entries n.entries old work filled then c (sym at) write.0 write.4 ascending count

-- ---- the first and the last id

pub first_entered : (id : RecordId) (old new : List RecordId) (first : Bool) → new ≡ put id_cmp id old → first ≡ not (some old) → one_if (some new) ≡ one_if (some old) + one_if first
first_entered id old new first put' e = ap (λ ids. one_if (some ids)) put' ∙ ap one_if (there old) ∙ sum (some old) ∙ ap (λ b. one_if (some old) + one_if b) (sym e)
  where
    there : (ids : List RecordId) → some (put id_cmp id ids) ≡ true
    there [] = refl
    there (x ∷ xs) = elim (id_cmp id x) as (λ r. some (match_ordering r (id ∷ x ∷ xs) (x ∷ xs) (x ∷ put id_cmp id xs)) ≡ true) [ Less ↦ refl | Equal ↦ refl | Greater ↦ refl ]

    sum : (b : Bool) → one_if true ≡ one_if b + one_if (not b)
    sum true = refl
    sum false = refl

pub last_left : (p : RecordId → Bool) (old new : List RecordId) (last : Bool) → new ≡ filter p old → last ≡ (some old && not (some new)) → one_if (some old) ≡ one_if (some new) + one_if last
last_left p [] new last kept e = ap (λ ids. one_if (some ids)) (sym kept) ∙ zero (some new) ∙ ap (λ b. one_if (some new) + one_if b) (sym e)
  where
    zero : (b : Bool) → one_if b ≡ one_if b + one_if (false && not b)
    zero true = refl
    zero false = refl
last_left p (x ∷ xs) new last kept e = sum (some new) ∙ ap (λ b. one_if (some new) + one_if b) (sym e)
  where
    sum : (b : Bool) → one_if true ≡ one_if b + one_if (true && not b)
    sum true = refl
    sum false = refl
