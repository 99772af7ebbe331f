-- The table of homes as a map: what is found in it, and how a write to the homes of one library changes it.
use Rattle.std.proofs.Common.{◌≡◌, ℕ, ◌+◌, suc, Bool, true, false, cond, ◌&&◌, List, [], ◌∷◌, ◌++◌, length, refl, sym, ap, subst, ◌∙◌, arith}
use Rattle.std.specs.Prelude.{Option, Some, None, is_some, unwrap_or, not, map, nat_eq, Result, Ok, Err, OnErr}
use Rattle.std.specs.Option.{option_map}
use Rattle.std.specs.declared.cmp.Ordering.{Ordering}
use Rattle.std.specs.declared.cmp.Ordering.TheVariants.{Less, Equal, Greater}
use Rattle.std.specs.Ordering.{match_ordering, is_eq, nat_cmp, ordering_then}
use Rattle.std.specs.Cmp.{eq_by_cmp_equiv}
use Rattle.std.specs.Cmp.Lexicographic.{pointwise, slice_cmp, texts_ties, nat_list_cmp_total}
use Rattle.std.specs.BTreeMap.{is_at, insert_entry}
use Rattle.std.specs.List.Sorted.{IsStrictlySortedBy}
use Rattle.std.specs.Map.{lookup, remove_entry, keys_of}
use Rattle.std.proofs.lemmas.Map.{lookup-none}
use Rattle.std.proofs.lemmas.Map.Entries.{none_past_head}
use Rattle.std.proofs.lemmas.Map.Keys.{IsDistinct-from_sorted}
use Rattle.std.proofs.lemmas.List.Concat.{flat_map-cons}
use Rattle.union_base.specs.Ties.{texts_apart}
use Rattle.union_base.specs.declared.record_id.RecordId.{RecordId}
use Rattle.union_base.specs.RecordIds.{id_cmp}
use Rattle.record_homes.specs.Maps.{MapOf, at_id, change_at, in_order}
use Rattle.record_homes.specs.Libraries.{Rows, Libraries, row_at, Sets, rows_of, home_at, AreInOrder, pairs_in}
use Rattle.record_homes.specs.declared.home.Home.{Home}
use Rattle.record_homes.proofs.MapLaws.{same, same-sym, one-id, at-inserted, at-removed, at-changed, keys-changed, ordered-inserted, ordered-removed, same-maps}

-- ---- pairs in order

pub ordered-in_order : {X : Type 0} (pairs : MapOf X) → IsStrictlySortedBy id_cmp (keys_of (in_order pairs))
unfolding IsStrictlySortedBy
ordered-in_order [] = tt
ordered-in_order (p ∷ pairs) = ordered-inserted (in_order pairs) p.0 p.1 (ordered-in_order pairs)

at-in_order : {X : Type 0} (pairs : MapOf X) (q : RecordId) → at_id (in_order pairs) q ≡ at_id pairs q
at-in_order [] q = refl
at-in_order {X} (p ∷ pairs) q =
    at-inserted (in_order pairs) p.0 p.1 q
    ∙ ap (λ b. cond b (Some p.1) (at_id (in_order pairs) q)) (same-sym p.0 q)
    ∙ ap (λ o. cond (same q p.0) (Some p.1) o) (at-in_order pairs q)

-- ---- one library

-- ids are the same where their libraries and their control numbers are
equal-then : (r s : Ordering) → is_eq (ordering_then r s) ≡ (is_eq r && is_eq s)
equal-then Less s = refl
equal-then Equal s = refl
equal-then Greater s = refl

pub same-parts : (a b : RecordId) → same a b ≡ (is_at (slice_cmp nat_cmp a.library) b.library && pointwise nat_eq a.control b.control)
same-parts a b =
    equal-then (slice_cmp nat_cmp a.library b.library) (slice_cmp nat_cmp a.control b.control)
    ∙ ap (λ t. is_at (slice_cmp nat_cmp a.library) b.library && t) (sym (texts_ties a.control b.control))

equal-from_is : (r : Ordering) → is_eq r ≡ true → r ≡ Equal
equal-from_is Less h = cc
equal-from_is Equal h = refl
equal-from_is Greater h = cc

pub one-library : (a b : List ℕ) → is_at (slice_cmp nat_cmp a) b ≡ true → a ≡ b
one-library a b h = texts_apart a b (equal-from_is (slice_cmp nat_cmp a b) h)

own-library : (a : List ℕ) → is_at (slice_cmp nat_cmp a) a ≡ true
own-library a = (eq_by_cmp_equiv nat_list_cmp_total).refl a

-- ---- what is found

abbrev shelved : List ℕ → Rows → MapOf Home
shelved library rows = map (λ row. (record { library = library; control = row.0 }, row.1)) rows

-- among the pairs of a library that stand before others
at-own : (library : List ℕ) (rows : Rows) (rest : MapOf Home) (q : RecordId) → is_at (slice_cmp nat_cmp q.library) library ≡ true
    → at_id rest q ≡ None → at_id (shelved library rows ++ rest) q ≡ row_at rows q.control
at-own library [] rest q own none = none
at-own library (row ∷ rows) rest q own none =
    ap (λ b. cond b (Some row.1) (at_id (shelved library rows ++ rest) q))
    (same-parts q (record { library = library; control = row.0 }) ∙ ap (λ b. b && pointwise nat_eq q.control row.0) own)
    ∙ ap (λ o. cond (pointwise nat_eq q.control row.0) (Some row.1) o) (at-own library rows rest q own none)

at-others : (library : List ℕ) (rows : Rows) (rest : MapOf Home) (q : RecordId) → is_at (slice_cmp nat_cmp q.library) library ≡ false
    → at_id (shelved library rows ++ rest) q ≡ at_id rest q
at-others library [] rest q other = refl
at-others library (row ∷ rows) rest q other =
    ap (λ b. cond b (Some row.1) (at_id (shelved library rows ++ rest) q))
    (same-parts q (record { library = library; control = row.0 }) ∙ ap (λ b. b && pointwise nat_eq q.control row.0) other)
    ∙ at-others library rows rest q other

at-pairs : (libraries : Libraries) → AreInOrder libraries → (q : RecordId) → at_id (pairs_in libraries) q ≡ home_at libraries q
unfolding IsStrictlySortedBy
at-pairs [] up q = refl
at-pairs (l ∷ libraries) up q =
    let rest = at-pairs libraries up.1 q in
    ap (λ all. at_id all q) (flat_map-cons (λ (homes : List ℕ × Rows). shelved homes.0 homes.1) l libraries)
    ∙ elim (is_at (slice_cmp nat_cmp q.library) l.0) as (λ b. is_at (slice_cmp nat_cmp q.library) l.0 ≡ b
    → at_id (shelved l.0 l.1 ++ pairs_in libraries) q ≡ row_at (unwrap_or (cond b (Some l.1) (lookup (is_at (slice_cmp nat_cmp q.library)) libraries)) []) q.control) [
      | true ↦ λ own. at-own l.0 l.1 (pairs_in libraries) q own
          (rest ∙ ap (λ o. row_at (unwrap_or o []) q.control)
          (lookup-none (is_at (slice_cmp nat_cmp q.library)) libraries
          (none_past_head (eq_by_cmp_equiv nat_list_cmp_total) q.library l libraries (IsDistinct-from_sorted (slice_cmp nat_cmp) (keys_of (l ∷ libraries)) up) own)))
      | false ↦ λ other. at-others l.0 l.1 (pairs_in libraries) q other ∙ rest
    ] refl

-- what is found in the table
pub at-table : (libraries : Libraries) → AreInOrder libraries → (q : RecordId) → at_id (in_order (pairs_in libraries)) q ≡ home_at libraries q
at-table libraries up q = at-in_order (pairs_in libraries) q ∙ at-pairs libraries up q

-- a table is the map in which the same is found
pub table-is : (libraries : Libraries) (all : MapOf Home) → AreInOrder libraries → IsStrictlySortedBy id_cmp (keys_of all)
    → ((q : RecordId) → home_at libraries q ≡ at_id all q) → in_order (pairs_in libraries) ≡ all
table-is libraries all up ordered each =
    same-maps (in_order (pairs_in libraries)) all (ordered-in_order (pairs_in libraries)) ordered (λ q. at-table libraries up q ∙ each q)

-- ---- writes to the homes of one library

pub home-set : (old new : Libraries) (id : RecordId) (before after : Rows) (home : Option Home)
    → before ≡ rows_of old id.library
    → ((q : List ℕ) → lookup (is_at (slice_cmp nat_cmp q)) new ≡ cond (is_at (slice_cmp nat_cmp id.library) q) (Some after) (lookup (is_at (slice_cmp nat_cmp q)) old))
    → Sets before after id.control home
    → (q : RecordId) → home_at new q ≡ cond (same id q) home (home_at old q)
home-set old new id before after home was writes sets q =
    ap (λ o. row_at (unwrap_or o []) q.control) (writes q.library)
    ∙ elim (is_at (slice_cmp nat_cmp id.library) q.library) as (λ b. is_at (slice_cmp nat_cmp id.library) q.library ≡ b
    → row_at (unwrap_or (cond b (Some after) (lookup (is_at (slice_cmp nat_cmp q.library)) old)) []) q.control ≡ cond (b && pointwise nat_eq id.control q.control) home (home_at old q)) [
      | true ↦ λ own. sets q.control ∙ ap (λ o. cond (pointwise nat_eq id.control q.control) home o)
          (ap (λ rows. row_at rows q.control) (was ∙ ap (rows_of old) (one-library id.library q.library own)))
      | false ↦ λ other. refl
    ] refl
    ∙ ap (λ b. cond b home (home_at old q)) (sym (same-parts id q))

-- a write that puts back what was there
pub home-same : (old new : Libraries) (library : List ℕ) (rows : Rows)
    → rows ≡ rows_of old library
    → ((q : List ℕ) → lookup (is_at (slice_cmp nat_cmp q)) new ≡ cond (is_at (slice_cmp nat_cmp library) q) (Some rows) (lookup (is_at (slice_cmp nat_cmp q)) old))
    → (q : RecordId) → home_at new q ≡ home_at old q
home-same old new library rows was writes q =
    ap (λ o. row_at (unwrap_or o []) q.control) (writes q.library)
    ∙ elim (is_at (slice_cmp nat_cmp library) q.library) as (λ b. is_at (slice_cmp nat_cmp library) q.library ≡ b
    → row_at (unwrap_or (cond b (Some rows) (lookup (is_at (slice_cmp nat_cmp q.library)) old)) []) q.control ≡ home_at old q) [
      | true ↦ λ own. ap (λ rows. row_at rows q.control) (was ∙ ap (rows_of old) (one-library library q.library own))
      | false ↦ λ other. refl
    ] refl

-- nothing is set where the library has no records
pub none-set : (all : Libraries) (id : RecordId) (home : Option Home) → rows_of all id.library ≡ [] → home ≡ None
    → (q : RecordId) → home_at all q ≡ cond (same id q) home (home_at all q)
none-set all id home empty is q =
    elim (same id q) as (λ b. same id q ≡ b → home_at all q ≡ cond b home (home_at all q)) [
      | true ↦ λ one. ap (λ rows. row_at rows q.control) (ap (rows_of all) (sym (library-of (is_at (slice_cmp nat_cmp id.library) q.library) refl one)) ∙ empty) ∙ sym is
      | false ↦ λ other. refl
    ] refl
  where
    library-of : (b : Bool) → is_at (slice_cmp nat_cmp id.library) q.library ≡ b → same id q ≡ true → id.library ≡ q.library
    library-of true own one = one-library id.library q.library own
    library-of false other one =
        absurd (let clash : true ≡ false = sym one ∙ same-parts id q ∙ ap (λ b. b && pointwise nat_eq id.control q.control) other in cc)

-- ---- the table after a write

pub table-same : (old new : Libraries) → AreInOrder old → AreInOrder new → ((q : RecordId) → home_at new q ≡ home_at old q)
    → in_order (pairs_in new) ≡ in_order (pairs_in old)
table-same old new up next set =
    table-is new (in_order (pairs_in old)) next (ordered-in_order (pairs_in old)) (λ q. set q ∙ sym (at-table old up q))

-- a home is put under an id that has none
pub table-put : (old new : Libraries) (id : RecordId) (home : Home) → AreInOrder old → AreInOrder new → home_at old id ≡ None
    → ((q : RecordId) → home_at new q ≡ cond (same id q) (Some (unwrap_or (home_at old id) home)) (home_at old q))
    → in_order (pairs_in new) ≡ insert_entry id_cmp (in_order (pairs_in old)) id home
table-put old new id home up next none set =
    table-is new (insert_entry id_cmp (in_order (pairs_in old)) id home) next
    (ordered-inserted (in_order (pairs_in old)) id home (ordered-in_order (pairs_in old)))
    (λ q. set q ∙ ap (λ o. cond (same id q) (Some (unwrap_or o home)) (home_at old q)) none
    ∙ ap (λ o. cond (same id q) (Some home) o) (sym (at-table old up q)) ∙ sym (at-inserted (in_order (pairs_in old)) id home q))

-- no home is put under an id that has one
pub table-kept : (old new : Libraries) (id : RecordId) (home : Home) → AreInOrder old → AreInOrder new → is_some (home_at old id) ≡ true
    → ((q : RecordId) → home_at new q ≡ cond (same id q) (Some (unwrap_or (home_at old id) home)) (home_at old q))
    → in_order (pairs_in new) ≡ in_order (pairs_in old)
table-kept old new id home up next some set =
    table-same old new up next
    (λ q. set q ∙ elim (same id q) as (λ b. same id q ≡ b → cond b (Some (unwrap_or (home_at old id) home)) (home_at old q) ≡ home_at old q) [
      | true ↦ λ one. filled (home_at old id) some ∙ ap (home_at old) (one-id id q one)
      | false ↦ λ _. refl
    ] refl)
  where
    filled : (o : Option Home) → is_some o ≡ true → Some (unwrap_or o home) ≡ o
    filled (Some h) is = refl
    filled None is = cc

pub table-removed : (old new : Libraries) (id : RecordId) → AreInOrder old → AreInOrder new
    → ((q : RecordId) → home_at new q ≡ cond (same id q) None (home_at old q))
    → in_order (pairs_in new) ≡ remove_entry (is_at (id_cmp id)) (in_order (pairs_in old))
table-removed old new id up next set =
    table-is new (remove_entry (same id) (in_order (pairs_in old))) next
    (ordered-removed (in_order (pairs_in old)) (same id) (ordered-in_order (pairs_in old)))
    (λ q. set q ∙ ap (λ o. cond (same id q) None o) (sym (at-table old up q)) ∙ sym (at-removed (in_order (pairs_in old)) id q (ordered-in_order (pairs_in old))))

pub table-changed : (old new : Libraries) (id : RecordId) (f : Home → Home) → AreInOrder old → AreInOrder new
    → ((q : RecordId) → home_at new q ≡ cond (same id q) (option_map f (home_at old id)) (home_at old q))
    → in_order (pairs_in new) ≡ change_at id f (in_order (pairs_in old))
table-changed old new id f up next set =
    table-is new (change_at id f (in_order (pairs_in old))) next
    (subst (IsStrictlySortedBy id_cmp) (sym (keys-changed id f (in_order (pairs_in old)))) (ordered-in_order (pairs_in old)))
    (λ q. set q ∙ own q (same id q) refl ∙ sym (at-changed (in_order (pairs_in old)) id f q))
  where
    own : (q : RecordId) (b : Bool) → same id q ≡ b → cond b (option_map f (home_at old id)) (home_at old q)
        ≡ cond b (option_map f (at_id (in_order (pairs_in old)) q)) (at_id (in_order (pairs_in old)) q)
    own q true one = ap (option_map f) (ap (home_at old) (one-id id q one) ∙ sym (at-table old up q))
    own q false other = sym (at-table old up q)

-- what follows where a call is refused
pub on_err_weaker : {X E : Type 0} (r : Result X E) {P Q : Type 0} → (P → Q) → OnErr r P → OnErr r Q
on_err_weaker (Ok x) more h = tt
on_err_weaker (Err e) more h = more h

pub on_err : {X E : Type 0} (r : Result X E) {P : Type 0} → P → OnErr r P
on_err (Ok x) holds = tt
on_err (Err e) holds = holds

-- a home was put just where there was none
pub none-from_new : (o : Option Home) → not (is_some o) ≡ true → o ≡ None
none-from_new None new = refl
none-from_new (Some h) new = cc

pub some-from_old : (o : Option Home) → not (is_some o) ≡ false → is_some o ≡ true
some-from_old None old = cc
some-from_old (Some h) old = refl

-- ---- counts

pub count-inserted : {X : Type 0} (all : MapOf X) (id : RecordId) (x : X) → at_id all id ≡ None → length (insert_entry id_cmp all id x) ≡ length all + 1
count-inserted [] id x none = refl
count-inserted {X} (p ∷ all) id x none =
    elim (id_cmp id p.0) as (λ r. id_cmp id p.0 ≡ r → cond (is_eq r) (Some p.1) (at_id all id) ≡ None
    → length (match_ordering r ((id, x) ∷ p ∷ all) ((p.0, x) ∷ all) (p ∷ insert_entry id_cmp all id x)) ≡ suc (length all) + 1) [
      | Less ↦ λ e none. (let more : suc (suc (length all)) ≡ suc (length all) + 1 = omega arith in more)
      | Equal ↦ λ e none. cc
      | Greater ↦ λ e none. (let rest = count-inserted all id x none in
          let more : suc (length (insert_entry id_cmp all id x)) ≡ suc (length all) + 1 = omega (arith, rest) in more)
    ] refl none

pub count-removed : {X : Type 0} (all : MapOf X) (id : RecordId) → is_some (at_id all id) ≡ true → length (remove_entry (same id) all) + 1 ≡ length all
count-removed [] id some = cc
count-removed {X} (p ∷ all) id some =
    elim (same id p.0) as (λ b. is_some (cond b (Some p.1) (at_id all id)) ≡ true → length (cond b all (p ∷ remove_entry (same id) all)) + 1 ≡ suc (length all)) [
      | true ↦ λ some. (let one : length all + 1 ≡ suc (length all) = omega arith in one)
      | false ↦ λ some. (let rest = count-removed all id some in
          let more : suc (length (remove_entry (same id) all)) + 1 ≡ suc (length all) = omega (arith, rest) in more)
    ] some

pub removed-none : {X : Type 0} (all : MapOf X) (id : RecordId) → is_some (at_id all id) ≡ false → remove_entry (same id) all ≡ all
removed-none [] id none = refl
removed-none {X} (p ∷ all) id none =
    elim (same id p.0) as (λ b. is_some (cond b (Some p.1) (at_id all id)) ≡ false → cond b all (p ∷ remove_entry (same id) all) ≡ p ∷ all) [
      | true ↦ λ none. cc
      | false ↦ λ none. ap (λ (rest : MapOf X). p ∷ rest) (removed-none all id none)
    ] none

pub count-changed : {X : Type 0} (all : MapOf X) (id : RecordId) (f : X → X) → length (change_at id f all) ≡ length all
count-changed [] id f = refl
count-changed {X} (p ∷ all) id f =
    elim (same id p.0) as (λ b. length (cond {A = MapOf X} b ((p.0, f p.1) ∷ all) (p ∷ change_at id f all)) ≡ suc (length all)) [
      | true ↦ refl
      | false ↦ ap suc (count-changed all id f)
    ]
