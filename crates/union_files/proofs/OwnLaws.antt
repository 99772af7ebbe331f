-- Which records of a library are current, and what comes of its operations, depends on its own operations alone.
use Rattle.std.proofs.Common.{◌≡◌, ◌≢◌, ℕ, Bool, true, false, cond, ◌&&◌, List, [], ◌∷◌, refl, sym, ap, subst, ◌∙◌}
use Rattle.std.specs.Prelude.{T, fold, is_some, Some, None}
use Rattle.std.specs.declared.cmp.Ordering.{Ordering}
use Rattle.std.specs.declared.cmp.Ordering.TheVariants.{Less, Equal, Greater}
use Rattle.std.specs.Ordering.{match_ordering, is_lt, is_eq, ordering_reverse}
use Rattle.std.specs.Cmp.Lexicographic.{bytes_decides}
use Rattle.std.specs.List.{list_all}
use Rattle.std.specs.BTreeMap.{is_at, insert_entry}
use Rattle.std.specs.Map.{remove_entry}
use Rattle.std.specs.FinMap.Entries.{by_order, put, find, below_all, is_sorted, is_sorted-put, find-put, same_entries}
use Rattle.union_base.specs.Both.{both_true}
use Rattle.union_base.specs.IdLaws.{ids_apart}
use Rattle.union_base.specs.declared.record_id.RecordId.{RecordId}
use Rattle.union_base.specs.RecordIds.{id_cmp}
use Rattle.field_merge.specs.KeptLaws.{id_total}
use Rattle.catalogue_editions.specs.Batches.{is_one_of, is_own, has_one_level, is_own_op}
use Rattle.catalogue_editions.specs.Ids.{first_id, least}
use Rattle.catalogue_core.specs.Histories.{MapOf, at_id, id_of, after_op, after_batch, outcome_of, outcomes}
use Rattle.catalogue_editions.specs.declared.batch.Batch.{Batch}
use Rattle.catalogue_editions.specs.declared.edition.Edition.{Edition}
use Rattle.catalogue_editions.specs.declared.op.Op.{Op}
use Rattle.catalogue_editions.specs.declared.op.Op.TheVariants.{Load, Withdraw}
use Rattle.catalogue_editions.specs.declared.outcome.Outcome.{Outcome}
use Rattle.catalogue_editions.specs.declared.outcome.Outcome.TheVariants.{Added, Replaced, Removed, Absent}

-- ---- maps from ids

tied-itself : (r : Ordering) → r ≡ ordering_reverse r → is_eq r ≡ true
tied-itself Less e = cc
tied-itself Equal e = refl
tied-itself Greater e = cc

equal-from_tie : (r : Ordering) → is_eq r ≡ true → r ≡ Equal
equal-from_tie Less e = cc
equal-from_tie Equal e = refl
equal-from_tie Greater e = cc

not_tied : (r : Ordering) → T (is_lt r) → is_eq r ≡ false
not_tied Less h = refl
not_tied Equal h = absurd h
not_tied Greater h = refl

itself : (k : RecordId) → is_at (id_cmp k) k ≡ true
itself k = tied-itself (id_cmp k k) (id_total.antisymm k k)

-- ids that tie are one
one-id : (k q : RecordId) → is_at (id_cmp k) q ≡ true → k ≡ q
one-id k q tied = ids_apart k q (equal-from_tie (id_cmp k q) tied)

-- ids that differ do not tie
by-tie : (b : Bool) (k q : RecordId) → is_at (id_cmp k) q ≡ b → k ≢ q → is_at (id_cmp k) q ≡ false
by-tie true k q is differ = absurd (differ (one-id k q is))
by-tie false k q is differ = is

apart-ids : (k q : RecordId) → k ≢ q → is_at (id_cmp k) q ≡ false
apart-ids k q differ = by-tie (is_at (id_cmp k) q) k q refl differ

first-of_both : (a b : Bool) → T (a && b) → T a
first-of_both true b h = tt
first-of_both false b h = h

second-of_both : (a b : Bool) → T (a && b) → T b
second-of_both true b h = h
second-of_both false b h = absurd h

of-both : (a b : Bool) → T a → T b → T (a && b)
of-both true b h k = k
of-both false b h k = h

abbrev pub IsSorted : MapOf Edition → Type 0
IsSorted all = T (is_sorted id_cmp all)

put-is : (all : MapOf Edition) (k : RecordId) (e : Edition) → insert_entry id_cmp all k e ≡ put id_cmp k e all
put-is [] k e = refl
put-is (x ∷ all) k e =
    elim (id_cmp k x.0) as (λ r. match_ordering r ((k, e) ∷ x ∷ all) ((x.0, e) ∷ all) (x ∷ insert_entry id_cmp all k e)
    ≡ by_order r ((k, e) ∷ x ∷ all) ((x.0, e) ∷ all) (x ∷ put id_cmp k e all)) [
      | Less ↦ refl
      | Equal ↦ refl
      | Greater ↦ ap (λ (rest : MapOf Edition). x ∷ rest) (put-is all k e)
    ]

find-is : (all : MapOf Edition) (q : RecordId) → at_id all q ≡ find id_cmp q all
find-is [] q = refl
find-is (x ∷ all) q = ap (cond (is_at (id_cmp q) x.0) (Some x.1)) (find-is all q)

sorted-loaded : (all : MapOf Edition) (k : RecordId) (e : Edition) → IsSorted all → IsSorted (insert_entry id_cmp all k e)
sorted-loaded all k e up = subst IsSorted (sym (put-is all k e)) (is_sorted-put id_cmp id_total k e all up)

at-loaded : (all : MapOf Edition) (k q : RecordId) (e : Edition) → at_id (insert_entry id_cmp all k e) q ≡ cond (is_at (id_cmp q) k) (Some e) (at_id all q)
at-loaded all k q e =
    find-is (insert_entry id_cmp all k e) q ∙ ap (find id_cmp q) (put-is all k e) ∙ find-put id_cmp id_total q k e all
    ∙ ap (cond (is_at (id_cmp q) k) (Some e)) (sym (find-is all q))

below-removed : (x : RecordId) (test : RecordId → Bool) (all : MapOf Edition) → T (below_all id_cmp x all) → T (below_all id_cmp x (remove_entry test all))
below-removed x test [] below = tt
below-removed x test (y ∷ all) below =
    elim (test y.0) as (λ b. T (below_all id_cmp x (cond b all (y ∷ remove_entry test all)))) [
      | true ↦ second-of_both (is_lt (id_cmp x y.0)) (below_all id_cmp x all) below
      | false ↦ of-both (is_lt (id_cmp x y.0)) (below_all id_cmp x (remove_entry test all)) (first-of_both (is_lt (id_cmp x y.0)) (below_all id_cmp x all) below)
          (below-removed x test all (second-of_both (is_lt (id_cmp x y.0)) (below_all id_cmp x all) below))
    ]

sorted-removed : (test : RecordId → Bool) (all : MapOf Edition) → IsSorted all → IsSorted (remove_entry test all)
sorted-removed test [] up = tt
sorted-removed test (x ∷ all) up =
    elim (test x.0) as (λ b. IsSorted (cond b all (x ∷ remove_entry test all))) [
      | true ↦ second-of_both (below_all id_cmp x.0 all) (is_sorted id_cmp all) up
      | false ↦ of-both (below_all id_cmp x.0 (remove_entry test all)) (is_sorted id_cmp (remove_entry test all))
          (below-removed x.0 test all (first-of_both (below_all id_cmp x.0 all) (is_sorted id_cmp all) up))
          (sorted-removed test all (second-of_both (below_all id_cmp x.0 all) (is_sorted id_cmp all) up))
    ]

none-above : (k : RecordId) (all : MapOf Edition) → T (below_all id_cmp k all) → at_id all k ≡ None
none-above k [] below = refl
none-above k (x ∷ all) below =
    ap (λ b. cond b (Some x.1) (at_id all k)) (not_tied (id_cmp k x.0) (first-of_both (is_lt (id_cmp k x.0)) (below_all id_cmp k all) below))
    ∙ none-above k all (second-of_both (is_lt (id_cmp k x.0)) (below_all id_cmp k all) below)

-- nothing is under an id that was taken away
at-removed : (k : RecordId) (all : MapOf Edition) → IsSorted all → at_id (remove_entry (is_at (id_cmp k)) all) k ≡ None
at-removed k [] up = refl
at-removed k (x ∷ all) up =
    elim (is_at (id_cmp k) x.0) as (λ b. is_at (id_cmp k) x.0 ≡ b → at_id (cond b all (x ∷ remove_entry (is_at (id_cmp k)) all)) k ≡ None) [
      | true ↦ λ tied. none-above k all (subst (λ id. T (below_all id_cmp id all)) (sym (one-id k x.0 tied))
          (first-of_both (below_all id_cmp x.0 all) (is_sorted id_cmp all) up))
      | false ↦ λ apart. ap (λ b. cond b (Some x.1) (at_id (remove_entry (is_at (id_cmp k)) all) k)) apart
          ∙ at-removed k all (second-of_both (below_all id_cmp x.0 all) (is_sorted id_cmp all) up)
    ] refl

-- and the others stay
at-kept : (k q : RecordId) (all : MapOf Edition) → q ≢ k → at_id (remove_entry (is_at (id_cmp k)) all) q ≡ at_id all q
at-kept k q [] differ = refl
at-kept k q (x ∷ all) differ =
    elim (is_at (id_cmp k) x.0) as (λ b. is_at (id_cmp k) x.0 ≡ b → at_id (cond b all (x ∷ remove_entry (is_at (id_cmp k)) all)) q ≡ at_id (x ∷ all) q) [
      | true ↦ λ tied. sym (ap (λ b. cond b (Some x.1) (at_id all q)) (apart-ids q x.0 (λ same. differ (same ∙ sym (one-id k x.0 tied)))))
      | false ↦ λ apart. ap (cond (is_at (id_cmp q) x.0) (Some x.1)) (at-kept k q all differ)
    ] refl

-- ---- a library's own records

-- the two maps have the same records of the library
pub record HaveSameOwn (library : List ℕ) (a b : MapOf Edition) : Type 0 where
  pub sorted : IsSorted a × IsSorted b
  pub same : (id : RecordId) → id.library ≡ library → at_id a id ≡ at_id b id

own-first : (library : List ℕ) (ids : List RecordId) → is_one_of library ids ≡ true → (first_id ids).library ≡ library
own-first library [] own = cc
own-first library (id ∷ []) own = (bytes_decides id.library library).0 own
own-first library (id ∷ more ∷ rest) own = cc

own-edition : (library : List ℕ) (e : Edition) → is_own library e ≡ true → (least e).library ≡ library
own-edition library e own =
    own-first library e.content.contributors (both_true (is_one_of library e.content.contributors) (has_one_level e.content) own).0

own-withdrawn : (library : List ℕ) (k : RecordId) (a b : MapOf Edition) (q : RecordId) (tied : Bool) → is_at (id_cmp k) q ≡ tied → IsSorted a → IsSorted b
    → at_id a q ≡ at_id b q → at_id (remove_entry (is_at (id_cmp k)) a) q ≡ at_id (remove_entry (is_at (id_cmp k)) b) q
own-withdrawn library k a b q true tied up_a up_b same =
    subst (λ id. at_id (remove_entry (is_at (id_cmp k)) a) id ≡ at_id (remove_entry (is_at (id_cmp k)) b) id) (one-id k q tied) (at-removed k a up_a ∙ sym (at-removed k b up_b))
own-withdrawn library k a b q false apart up_a up_b same =
    let differ : q ≢ k = λ is. (let clash : true ≡ false = sym (itself k) ∙ (ap (is_at (id_cmp k)) (sym is) ∙ apart) in cc) in
    at-kept k q a differ ∙ (same ∙ sym (at-kept k q b differ))

-- after an operation of the library
own-after_op : (library : List ℕ) (a b : MapOf Edition) (op : Op) → HaveSameOwn library a b → HaveSameOwn library (after_op library a op) (after_op library b op)
own-after_op library a b (Load e) own = record {
  sorted = (sorted-loaded a (least e) e own.sorted.0, sorted-loaded b (least e) e own.sorted.1);
  same = λ id of. at-loaded a (least e) id e ∙ (ap (cond (is_at (id_cmp id) (least e)) (Some e)) (own.same id of) ∙ sym (at-loaded b (least e) id e));
}
own-after_op library a b (Withdraw number) own =
    let k = id_of library (Withdraw number) in
    record {
      sorted = (sorted-removed (is_at (id_cmp k)) a own.sorted.0, sorted-removed (is_at (id_cmp k)) b own.sorted.1);
      same = λ id of. own-withdrawn library k a b id (is_at (id_cmp k) id) refl own.sorted.0 own.sorted.1 (own.same id of);
    }

own-outcome_of : (library : List ℕ) (a b : MapOf Edition) (op : Op) → is_own_op library op ≡ true → HaveSameOwn library a b
    → outcome_of library a op ≡ outcome_of library b op
own-outcome_of library a b (Load e) mine own =
    ap (λ found. cond (is_some found) Replaced Added) (own.same (least e) (own-edition library e mine))
own-outcome_of library a b (Withdraw number) mine own =
    ap (λ found. cond (is_some found) Removed Absent) (own.same (id_of library (Withdraw number)) refl)

pub own-outcomes : (library : List ℕ) (a b : MapOf Edition) (ops : List Op) → list_all (is_own_op library) ops ≡ true → HaveSameOwn library a b
    → outcomes library a ops ≡ outcomes library b ops
own-outcomes library a b [] mine own = refl
own-outcomes library a b (op ∷ ops) mine own =
    let parts = both_true (is_own_op library op) (list_all (is_own_op library) ops) mine in
    ap (λ (first : Outcome). first ∷ outcomes library (after_op library a op) ops) (own-outcome_of library a b op parts.0 own)
    ∙ ap (λ (rest : List Outcome). outcome_of library b op ∷ rest)
    (own-outcomes library (after_op library a op) (after_op library b op) ops parts.1 (own-after_op library a b op own))

-- ids stay in order
sorted-op : (library : List ℕ) (all : MapOf Edition) (op : Op) → IsSorted all → IsSorted (after_op library all op)
sorted-op library all (Load e) up = sorted-loaded all (least e) e up
sorted-op library all (Withdraw number) up = sorted-removed (is_at (id_cmp (id_of library (Withdraw number)))) all up

sorted-ops : (library : List ℕ) (all : MapOf Edition) (ops : List Op) → IsSorted all → IsSorted (fold (after_op library) all ops)
sorted-ops library all [] up = up
sorted-ops library all (op ∷ ops) up = sorted-ops library (after_op library all op) ops (sorted-op library all op up)

pub sorted-batch : (all : MapOf Edition) (batch : Batch) → IsSorted all → IsSorted (after_batch all batch)
sorted-batch all batch up = sorted-ops batch.library all batch.ops up

-- maps in order that have the same under each id are one
pub one-map : (a b : MapOf Edition) → IsSorted a → IsSorted b → ((id : RecordId) → at_id a id ≡ at_id b id) → a ≡ b
one-map a b up_a up_b same = same_entries id_cmp id_total ids_apart a b up_a up_b (λ id. sym (find-is a id) ∙ (same id ∙ find-is b id))

own-after_ops : (library : List ℕ) (a b : MapOf Edition) (ops : List Op) → HaveSameOwn library a b
    → HaveSameOwn library (fold (after_op library) a ops) (fold (after_op library) b ops)
own-after_ops library a b [] own = own
own-after_ops library a b (op ∷ ops) own =
    own-after_ops library (after_op library a op) (after_op library b op) ops (own-after_op library a b op own)

pub batch-own : (batch : Batch) → list_all (is_own_op batch.library) batch.ops ≡ true
batch-own batch = (both_true _ (list_all (is_own_op batch.library) batch.ops) batch.fits).1

-- ---- other libraries' operations

apart-after_op : (library other : List ℕ) (a b : MapOf Edition) (op : Op) → other ≢ library → is_own_op other op ≡ true → HaveSameOwn library a b
    → HaveSameOwn library a (after_op other b op)
apart-after_op library other a b (Load e) differ mine own = record {
  sorted = (own.sorted.0, sorted-loaded b (least e) e own.sorted.1);
  same = λ id of. own.same id of
      ∙ (sym (ap (λ t. cond t (Some e) (at_id b id)) (apart-ids id (least e) (λ same. differ (sym (own-edition other e mine) ∙ (ap (λ (i : RecordId). i.library) (sym same) ∙ of)))))
      ∙ sym (at-loaded b (least e) id e));
}
apart-after_op library other a b (Withdraw number) differ mine own =
    let k = id_of other (Withdraw number) in
    record {
      sorted = (own.sorted.0, sorted-removed (is_at (id_cmp k)) b own.sorted.1);
      same = λ id of. own.same id of ∙ sym (at-kept k id b (λ same. differ (ap (λ (i : RecordId). i.library) (sym same) ∙ of)));
    }

pub apart-after_ops : (library other : List ℕ) (a b : MapOf Edition) (ops : List Op) → other ≢ library → list_all (is_own_op other) ops ≡ true
    → HaveSameOwn library a b → HaveSameOwn library a (fold (after_op other) b ops)
apart-after_ops library other a b [] differ mine own = own
apart-after_ops library other a b (op ∷ ops) differ mine own =
    let parts = both_true (is_own_op other op) (list_all (is_own_op other) ops) mine in
    apart-after_ops library other a (after_op other b op) ops differ parts.1 (apart-after_op library other a b op differ parts.0 own)

pub own-after_batch : (library : List ℕ) (a b : MapOf Edition) (batch : Batch) → batch.library ≡ library → HaveSameOwn library a b
    → HaveSameOwn library (after_batch a batch) (after_batch b batch)
own-after_batch library a b batch of own =
    subst (λ l. HaveSameOwn l (after_batch a batch) (after_batch b batch)) of
    (own-after_ops batch.library a b batch.ops (subst (λ l. HaveSameOwn l a b) (sym of) own))
