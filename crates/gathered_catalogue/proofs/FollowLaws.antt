-- The table of places follows the operations of a batch.
use Rattle.std.proofs.Common.{◌≡◌, ℕ, zero, suc, ◌+◌, ◌<◌, ◌≤◌, true, false, cond, ◌&&◌, List, [], ◌∷◌, ◌++◌, length, map, get_or, drop, append_assoc, append-nil, add-one, refl, sym, ap, subst, ◌∙◌, arith}
use Rattle.std.specs.Prelude.{Option, Some, None, is_some, fold, nat_eq}
use Rattle.std.proofs.Math.ListN.{drop_of_length-le}
use Rattle.std.proofs.Math.Seq.{drop-cons}
use Rattle.std.proofs.lemmas.List.{map-append}
use Rattle.std.proofs.lemmas.List.Sums.{fold-append}
use Rattle.std.specs.Option.{option_map, option_map_or}
use Rattle.std.specs.Ordering.{nat_cmp}
use Rattle.std.specs.Cmp.{eq_by_cmp_equiv}
use Rattle.std.specs.Cmp.Lexicographic.{pointwise, slice_cmp, nat_list_cmp_total, same_text}
use Rattle.std.specs.List.Sorted.{IsStrictlySortedBy}
use Rattle.std.specs.BTreeMap.{is_at}
use Rattle.std.specs.Map.{keys_of, lookup}
use Rattle.union_base.specs.Both.{both_true}
use Rattle.union_base.specs.declared.record_id.RecordId.{RecordId}
use Rattle.union_base.specs.RecordIds.{id_cmp}
use Rattle.record_homes.specs.declared.place.Place.{Place}
use Rattle.record_homes.proofs.HomeLaws.{some-mapped}
use Rattle.record_homes.proofs.MapLaws.{same, at-inserted, at-removed, ordered-inserted, ordered-removed}
use Rattle.record_homes.proofs.TableLaws.{same-parts, one-library}
use Rattle.catalogue_editions.specs.Batches.{is_own_op, is_one_of, has_one_level}
use Rattle.catalogue_editions.specs.Ids.{first_id, least}
use Rattle.catalogue_editions.specs.declared.batch.Batch.{Batch}
use Rattle.catalogue_editions.specs.declared.edition.Edition.{Edition}
use Rattle.catalogue_editions.specs.declared.history_entry.HistoryEntry.{HistoryEntry}
use Rattle.catalogue_editions.specs.declared.op.Op.{Op}
use Rattle.catalogue_editions.specs.declared.op.Op.TheVariants.{Load, Withdraw}
use Rattle.catalogue_editions.specs.declared.outcome.Outcome.{Outcome}
use Rattle.catalogue_editions.specs.declared.outcome.Outcome.TheVariants.{Added, Replaced, Removed, Absent}
use Rattle.turn_plans.specs.Histories.{MapOf, at_id, id_of, is_current, after_op, after_batch, current, outcome_of, outcomes}
use Rattle.turn_plans.specs.Keeping.{batches, loaded, loaded_at, StandFor}
use Rattle.turn_plans.proofs.Placing.{stand-grown}
use Rattle.turn_plans.proofs.TurnLaws.{ordered-current}
use Rattle.gathered_catalogue.specs.Tables.{Rows, Shelf, Libraries, row_at, Sets, rows_of, place_at}
use Rattle.gathered_catalogue.specs.Following.{control_of, place_after, outcome_at, place_with, AreFoundWith, AreCurrent}

-- ---- one library among the others

pub own-library : (library : List ℕ) → is_at (slice_cmp nat_cmp library) library ≡ true
own-library library = (eq_by_cmp_equiv nat_list_cmp_total).refl library

-- with the rows that the library has, each place is as before
pub place-kept : (libraries : Libraries) (library : List ℕ) (rows : Rows) → rows ≡ rows_of libraries library → (q : RecordId) → place_with libraries library rows q ≡ place_at libraries q
place-kept libraries library rows was q =
    elim (is_at (slice_cmp nat_cmp library) q.library) as (λ b. is_at (slice_cmp nat_cmp library) q.library ≡ b → cond b (row_at rows q.control) (place_at libraries q) ≡ place_at libraries q) [
      | true ↦ λ own. ap (λ (rs : Rows). row_at rs q.control) (was ∙ ap (rows_of libraries) (one-library library q.library own))
      | false ↦ λ other. refl
    ] refl

-- the current records are found with them
pub found-with : (history : List HistoryEntry) (libraries : Libraries) (library : List ℕ) (rows : Rows) → rows ≡ rows_of libraries library → AreCurrent history libraries
    → AreFoundWith (batches history) libraries library rows (current history)
found-with history libraries library rows was known = record {
  found = λ id. ap (option_map (loaded_at (batches history))) (place-kept libraries library rows was id) ∙ known.found id;
}

-- what a write of the library's rows leaves
pub place-written : (old new : Libraries) (library : List ℕ) (after : Shelf)
    → ((q : List ℕ) → lookup (is_at (slice_cmp nat_cmp q)) new ≡ cond (is_at (slice_cmp nat_cmp library) q) (Some after) (lookup (is_at (slice_cmp nat_cmp q)) old))
    → (q : RecordId) → place_at new q ≡ place_with old library after.rows q
place-written old new library after writes q =
    ap (λ (o : Option Shelf). row_at (option_map_or (λ (shelf : Shelf). shelf.rows) o []) q.control) (writes q.library)
    ∙ elim (is_at (slice_cmp nat_cmp library) q.library) as (λ b. row_at (option_map_or (λ (shelf : Shelf). shelf.rows) (cond b (Some after) (lookup (is_at (slice_cmp nat_cmp q.library)) old)) []) q.control
    ≡ cond b (row_at after.rows q.control) (place_at old q)) [ true ↦ refl | false ↦ refl ]

-- a write of the rows of one record
pub place-set : (libraries : Libraries) (library : List ℕ) (old new : Rows) (control : List ℕ) (place : Option Place) → Sets old new control place
    → (q : RecordId) → place_with libraries library new q ≡ cond (same (record { library = library; control = control }) q) place (place_with libraries library old q)
place-set libraries library old new control place sets q =
    elim (is_at (slice_cmp nat_cmp library) q.library) as (λ b. cond b (row_at new q.control) (place_at libraries q)
    ≡ cond (b && pointwise nat_eq control q.control) place (cond b (row_at old q.control) (place_at libraries q))) [
      | true ↦ sets q.control
      | false ↦ refl
    ]
    ∙ ap (λ b. cond b place (place_with libraries library old q)) (sym (same-parts (record { library = library; control = control }) q))

-- ---- one operation

-- the record that an operation names is the library's
first-own : (library : List ℕ) (ids : List RecordId) → is_one_of library ids ≡ true → (first_id ids).library ≡ library
first-own library [] own = cc
first-own library (id ∷ []) own = same_text id.library library (sym own)
first-own library (id ∷ more ∷ rest) own = cc

pub id-own : (library : List ℕ) (op : Op) → is_own_op library op ≡ true → ◌≡◌ {A = RecordId} (record { library = library; control = control_of op }) (id_of library op)
id-own library (Load e) own =
    let is : (least e).library ≡ library = first-own library e.content.contributors (both_true (is_one_of library e.content.contributors) (has_one_level e.content) own).0 in
    λ i. record { library = sym is i; control = (least e).control }
id-own library (Withdraw number) own = refl

module _ {all : List Batch} {libraries : Libraries} {library : List ℕ} {rows : Rows} {editions : MapOf Edition} (f : AreFoundWith all libraries library rows editions) (op : Op) (own : is_own_op library op ≡ true) where
  -- what is found after it
  pub found-next : (rows' : Rows) (place : Place) → loaded_at all place ≡ loaded op → IsStrictlySortedBy id_cmp (keys_of editions) → Sets rows rows' (control_of op) (place_after op place)
      → AreFoundWith all libraries library rows' (after_op library editions op)
  found-next rows' place loads up sets = record {
    found = λ q.
        ap (option_map (loaded_at all))
        (place-set libraries library rows rows' (control_of op) (place_after op place) sets q
        ∙ ap (λ (id : RecordId). cond (same id q) (place_after op place) (place_with libraries library rows q)) (id-own library op own))
        ∙ step op loads q;
  }
    where
      step : (o : Op) → loaded_at all place ≡ loaded o → (q : RecordId)
          → option_map (loaded_at all) (cond (same (id_of library o) q) (place_after o place) (place_with libraries library rows q)) ≡ option_map Some (at_id (after_op library editions o) q)
      step (Load e) is q =
          elim (same (least e) q) as (λ b. option_map (loaded_at all) (cond b (Some place) (place_with libraries library rows q)) ≡ option_map Some (cond b (Some e) (at_id editions q))) [
            | true ↦ ap Some is
            | false ↦ f.found q
          ]
          ∙ ap (option_map Some) (sym (at-inserted editions (least e) e q))
      step (Withdraw number) is q =
          elim (same (id_of library (Withdraw number)) q) as (λ b. option_map (loaded_at all) (cond b None (place_with libraries library rows q)) ≡ option_map Some (cond b None (at_id editions q))) [
            | true ↦ refl
            | false ↦ f.found q
          ]
          ∙ ap (option_map Some) (sym (at-removed editions (id_of library (Withdraw number)) q up))

  -- what comes of it
  found-current : is_some (row_at rows (control_of op)) ≡ is_current editions (id_of library op)
  found-current =
      ap is_some (sym (ap (λ b. cond b (row_at rows (control_of op)) (place_at libraries (record { library = library; control = control_of op }))) (own-library library)))
      ∙ sym (some-mapped (loaded_at all) (place_with libraries library rows (record { library = library; control = control_of op })))
      ∙ ap is_some (f.found (record { library = library; control = control_of op }))
      ∙ some-mapped Some (at_id editions (record { library = library; control = control_of op }))
      ∙ ap (is_current editions) (id-own library op own)

  pub outcome-next : outcome_at rows (control_of op) op ≡ outcome_of library editions op
  outcome-next = told op found-current
    where
      told : (o : Op) → is_some (row_at rows (control_of op)) ≡ is_current editions (id_of library o) → outcome_at rows (control_of op) o ≡ outcome_of library editions o
      told (Load e) is = ap (λ b. cond b Replaced Added) is
      told (Withdraw number) is = ap (λ b. cond b Removed Absent) is

-- ---- all operations of a batch

-- where a control number is left, an operation is left
pub named-next : (ops : List Op) (i : ℕ) (control : List ℕ) (rest : List (List ℕ)) → control ∷ rest ≡ map control_of (drop i ops) → i < length ops
named-next [] zero control rest is = cc
named-next [] (suc i) control rest is = cc
named-next (op ∷ ops) zero control rest is = omega arith
named-next (op ∷ ops) (suc i) control rest is = let below = named-next ops i control rest is in omega (arith, below)

-- the places stay, as more batches come
pub found-grown : (all more : List Batch) (libraries : Libraries) (library : List ℕ) (rows : Rows) (editions : MapOf Edition) → AreFoundWith all libraries library rows editions
    → AreFoundWith (all ++ more) libraries library rows editions
found-grown all more libraries library rows editions f = record { found = λ q. grown q (place_with libraries library rows q) (at_id editions q) (f.found q) }
  where
    grown : (q : RecordId) (p : Option Place) (o : Option Edition) → option_map (loaded_at all) p ≡ option_map Some o → option_map (loaded_at (all ++ more)) p ≡ option_map Some o
    grown q None None is = refl
    grown q None (Some e) is = cc
    grown q (Some place) None is = cc
    grown q (Some place) (Some e) is =
        let here : loaded_at all place ≡ Some e = cc in
        let one : StandFor all ((q, place) ∷ []) ((q, e) ∷ []) = record { loads = ap (λ (o : Option Edition). (q, o) ∷ []) here } in
        let two = (stand-grown all more ((q, place) ∷ []) ((q, place) ∷ []) ((q, e) ∷ []) refl one).loads in
        let there : ◌≡◌ {A = RecordId × Option Edition} (q, loaded_at (all ++ more) place) (q, Some e) = cc in
        λ i. Some ((there i).1)

ordered-next : (library : List ℕ) (editions : MapOf Edition) (op : Op) → IsStrictlySortedBy id_cmp (keys_of editions) → IsStrictlySortedBy id_cmp (keys_of (after_op library editions op))
ordered-next library editions (Load e) up = ordered-inserted editions _ e up
ordered-next library editions (Withdraw number) up = ordered-removed editions _ up

-- the places follow some of the operations, and the others are to come
pub record FollowsOn (all : List Batch) (libraries : Libraries) (library : List ℕ) (ops : List Op) (start : MapOf Edition) (rows : Rows) (found : List Outcome) (i : ℕ) : Type 0 where
  pub now : MapOf Edition
  pub follows : AreFoundWith all libraries library rows now
  pub ordered : IsStrictlySortedBy id_cmp (keys_of now)
  pub left : fold (after_op library) now (drop i ops) ≡ fold (after_op library) start ops
  pub answers : found ++ outcomes library now (drop i ops) ≡ outcomes library start ops

pub follows-begin : (history : List HistoryEntry) (batch : Batch) (libraries : Libraries) (rows : Rows) (found : List Outcome) → found ≡ []
    → AreFoundWith (batches history) libraries batch.library rows (current history)
    → FollowsOn (batches history ++ batch ∷ []) libraries batch.library batch.ops (current history) rows found 0
follows-begin history batch libraries rows found none f = record {
  now = current history;
  follows = found-grown (batches history) (batch ∷ []) libraries batch.library rows (current history) f;
  ordered = ordered-current history;
  left = refl;
  answers = ap (λ xs. xs ++ outcomes batch.library (current history) batch.ops) none;
}

module _ {all : List Batch} {libraries : Libraries} {library : List ℕ} {ops : List Op} {start : MapOf Edition} {rows : Rows} {found : List Outcome} {i : ℕ} (g : FollowsOn all libraries library ops start rows found i) where
  pub follows-next : (op : Op) → i < length ops → op ≡ get_or ops i op → is_own_op library op ≡ true → (place : Place) → loaded_at all place ≡ loaded op
      → (rows' : Rows) (control : List ℕ) → control ≡ control_of op → Sets rows rows' control (place_after op place)
      → (outcome : Outcome) → outcome ≡ outcome_at rows control op → (found' : List Outcome) → found' ≡ found ++ outcome ∷ []
      → FollowsOn all libraries library ops start rows' found' (i + 1)
  follows-next op below is own place loads rows' control named sets outcome came found' pushed =
      let next : drop i ops ≡ op ∷ drop (suc i) ops = drop-cons ops i op below ∙ ap (λ (x : Op). x ∷ drop (suc i) ops) (sym is) in
      rw add-one (record {
        now = after_op library g.now op;
        follows = found-next g.follows op own rows' place loads g.ordered (subst (λ c. Sets rows rows' c (place_after op place)) named sets);
        ordered = ordered-next library g.now op g.ordered;
        left = sym (ap (fold (after_op library) g.now) next) ∙ g.left;
        answers = ap (λ xs. xs ++ outcomes library (after_op library g.now op) (drop (suc i) ops)) pushed
            ∙ append_assoc found (outcome ∷ []) (outcomes library (after_op library g.now op) (drop (suc i) ops))
            ∙ ap (λ (o : Outcome). found ++ o ∷ outcomes library (after_op library g.now op) (drop (suc i) ops))
            (came ∙ ap (λ c. outcome_at rows c op) named ∙ outcome-next g.follows op own)
            ∙ sym (ap (λ xs. found ++ outcomes library g.now xs) next)
            ∙ g.answers;
      })

  module _ (past : length ops ≤ i) where
    pub follows-all : AreFoundWith all libraries library rows (fold (after_op library) start ops)
    follows-all = subst (λ now. AreFoundWith all libraries library rows now) (sym (ap (fold (after_op library) g.now) (drop_of_length-le ops past)) ∙ g.left) g.follows

    pub answers-all : found ≡ outcomes library start ops
    answers-all = sym (append-nil found) ∙ sym (ap (λ xs. found ++ outcomes library g.now xs) (drop_of_length-le ops past)) ∙ g.answers

-- ---- one turn more

pub current-grown : (history : List HistoryEntry) (entry : HistoryEntry) (libraries : Libraries)
    → ((id : RecordId) → option_map (loaded_at (batches history ++ entry.batch ∷ [])) (place_at libraries id) ≡ option_map Some (at_id (after_batch (current history) entry.batch) id))
    → AreCurrent (history ++ entry ∷ []) libraries
current-grown history entry libraries each = record {
  found = λ id.
      ap (λ bs. option_map (loaded_at bs) (place_at libraries id)) (map-append (λ (turn : HistoryEntry). turn.batch) history (entry ∷ []))
      ∙ each id
      ∙ ap (λ (all : MapOf Edition). option_map Some (at_id all id)) (sym (fold-append (λ (all : MapOf Edition) (turn : HistoryEntry). after_batch all turn.batch) [] history (entry ∷ [])));
}
