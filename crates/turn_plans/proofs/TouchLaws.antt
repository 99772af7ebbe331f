-- What a turn touched follows the operations of its batch.
use Rattle.std.proofs.Common.{◌≡◌, ℕ, suc, ◌+◌, ◌<◌, ◌≤◌, Bool, true, false, cond, List, [], ◌∷◌, ◌++◌, length, get_or, drop, append_assoc, append-nil, add-one, refl, sym, ap, subst, ◌∙◌}
use Rattle.std.specs.Prelude.{Option, Some, None, is_some, unwrap_or, fold}
use Rattle.std.proofs.Math.ListN.{drop_of_length-le}
use Rattle.std.proofs.Math.Seq.{drop-cons}
use Rattle.std.specs.Option.{option_map}
use Rattle.std.specs.List.Sorted.{IsStrictlySortedBy}
use Rattle.std.specs.BTreeMap.{insert_entry}
use Rattle.std.specs.Map.{keys_of, remove_entry}
use Rattle.union_base.specs.declared.record_id.RecordId.{RecordId}
use Rattle.union_base.specs.RecordIds.{id_cmp}
use Rattle.catalogue_editions.specs.Batches.{is_own_op}
use Rattle.turn_plans.specs.Histories.{MapOf, at_id, id_of, is_current, after_op, current, outcome_of, outcomes}
use Rattle.record_homes.specs.Moves.{place_of}
use Rattle.turn_plans.specs.Homes.{places_in}
use Rattle.catalogue_editions.specs.Ids.{least}
use Rattle.turn_plans.specs.Keeping.{batches, loaded, loaded_at, StandFor}
use Rattle.turn_plans.specs.Touches.{IsTouched}
use Rattle.catalogue_editions.specs.declared.batch.Batch.{Batch}
use Rattle.catalogue_editions.specs.declared.edition.Edition.{Edition}
use Rattle.catalogue_editions.specs.declared.history_entry.HistoryEntry.{HistoryEntry}
use Rattle.record_homes.specs.declared.home.Home.{Home}
use Rattle.catalogue_editions.specs.declared.op.Op.{Op}
use Rattle.catalogue_editions.specs.declared.op.Op.TheVariants.{Load, Withdraw}
use Rattle.catalogue_editions.specs.declared.outcome.Outcome.{Outcome}
use Rattle.catalogue_editions.specs.declared.outcome.Outcome.TheVariants.{Added, Replaced, Removed, Absent}
use Rattle.record_homes.specs.declared.place.Place.{Place}
use Rattle.turn_plans.proofs.Contributors.{single-op, single-remove, single-turns}
use Rattle.record_homes.proofs.HomeLaws.{some-mapped}
use Rattle.record_homes.proofs.MapLaws.{same, at-inserted, at-removed, ordered-inserted, ordered-removed}
use Rattle.turn_plans.proofs.Placing.{stand-grown}
use Rattle.turn_plans.proofs.TurnLaws.{found-home, ordered-current}

module _ {all : List Batch} {homes : MapOf Home} {editions : MapOf Edition} {touched : MapOf (Option Place)} (t : IsTouched all homes editions touched) where
  -- where a record is found by what was touched
  found-at : (id key q : RecordId) (to : Option Place) (touched' : MapOf (Option Place)) → key ≡ id → at_id touched' q ≡ cond (same key q) (Some to) (at_id touched q)
      → place_of homes touched' q ≡ cond (same id q) to (place_of homes touched q)
  found-at id key q to touched' is at =
      ap (λ o. unwrap_or o (option_map (λ (home : Home). home.place) (at_id homes q))) (at ∙ ap (λ k. cond (same k q) (Some to) (at_id touched q)) is)
      ∙ elim (same id q) as (λ b. unwrap_or (cond b (Some to) (at_id touched q)) (option_map (λ (home : Home). home.place) (at_id homes q))
      ≡ cond b to (place_of homes touched q)) [ true ↦ refl | false ↦ refl ]

  -- a load
  pub touches-load : (library : List ℕ) (op : Op) (e : Edition) (key : RecordId) (place : Place) (touched' : MapOf (Option Place)) → op ≡ Load e → key ≡ id_of library op
      → is_own_op library op ≡ true → loaded_at all place ≡ loaded op → touched' ≡ insert_entry id_cmp touched key (Some place)
      → IsTouched all homes (after_op library editions op) touched'
  touches-load library op e key place touched' load is own loads inserted =
      let Of : Op → Type 0 = λ o. key ≡ id_of library o → is_own_op library o ≡ true → loaded_at all place ≡ loaded o → IsTouched all homes (after_op library editions o) touched' in
      subst Of (sym load) loaded_so is own loads
    where
      loaded_so : key ≡ least e → is_own_op library (Load e) ≡ true → loaded_at all place ≡ Some e → IsTouched all homes (insert_entry id_cmp editions (least e) e) touched'
      loaded_so named mine there = record {
        stands = λ q.
            ap (option_map (loaded_at all)) (found-at (least e) key q (Some place) touched' named (ap (λ all. at_id all q) inserted ∙ at-inserted touched key (Some place) q))
            ∙ elim (same (least e) q) as (λ b. option_map (loaded_at all) (cond b (Some place) (place_of homes touched q)) ≡ option_map Some (cond b (Some e) (at_id editions q))) [
              | true ↦ ap Some there
              | false ↦ t.stands q
            ]
            ∙ ap (option_map Some) (sym (at-inserted editions (least e) e q));
        ordered = ordered-inserted editions (least e) e t.ordered;
        single = single-op library editions (Load e) t.single mine;
        touches = subst (λ (all' : MapOf (Option Place)). IsStrictlySortedBy id_cmp (keys_of all')) (sym inserted) (ordered-inserted touched key (Some place) t.touches);
      }

  -- a withdrawal
  pub touches-withdrawal : (library : List ℕ) (op : Op) (control : List ℕ) (key : RecordId) (touched' : MapOf (Option Place)) → op ≡ Withdraw control → key ≡ id_of library op
      → touched' ≡ insert_entry id_cmp touched key None → IsTouched all homes (after_op library editions op) touched'
  touches-withdrawal library op control key touched' gone is inserted =
      let Of : Op → Type 0 = λ o. key ≡ id_of library o → IsTouched all homes (after_op library editions o) touched' in
      subst Of (sym gone) withdrawn_so is
    where
      id : RecordId
      id = record { library = library; control = control }

      withdrawn_so : key ≡ id → IsTouched all homes (remove_entry (same id) editions) touched'
      withdrawn_so named = record {
        stands = λ q.
            ap (option_map (loaded_at all)) (found-at id key q None touched' named (ap (λ all. at_id all q) inserted ∙ at-inserted touched key None q))
            ∙ elim (same id q) as (λ b. option_map (loaded_at all) (cond b None (place_of homes touched q)) ≡ option_map Some (cond b None (at_id editions q))) [ true ↦ refl | false ↦ t.stands q ]
            ∙ ap (option_map Some) (sym (at-removed editions id q t.ordered));
        ordered = ordered-removed editions (same id) t.ordered;
        single = single-remove editions (same id) t.single;
        touches = subst (λ (all' : MapOf (Option Place)). IsStrictlySortedBy id_cmp (keys_of all')) (sym inserted) (ordered-inserted touched key None t.touches);
      }

  touched-current : (id : RecordId) → is_some (place_of homes touched id) ≡ is_current editions id
  touched-current id =
      sym (some-mapped (loaded_at all) (place_of homes touched id)) ∙ ap is_some (t.stands id) ∙ some-mapped Some (at_id editions id)

  -- whether a record is current, by what was touched under its id and by its home
  pub found-current : (id : RecordId) (before : Option (Option Place)) (home : Option Home) (was : Bool) → before ≡ at_id touched id → home ≡ at_id homes id
      → was ≡ is_some (unwrap_or before (option_map (λ (home : Home). home.place) home)) → was ≡ is_current editions id
  found-current id before home was there housed is =
      is ∙ ap (λ o. is_some (unwrap_or o (option_map (λ (home : Home). home.place) home))) there
      ∙ ap (λ o. is_some (unwrap_or (at_id touched id) (option_map (λ (home : Home). home.place) o))) housed
      ∙ touched-current id

  pub outcome-load : (library : List ℕ) (op : Op) (e : Edition) (key : RecordId) (was : Bool) → op ≡ Load e → key ≡ id_of library op → was ≡ is_current editions key
      → cond was Replaced Added ≡ outcome_of library editions op
  outcome-load library op e key was load is found =
      ap (λ b. cond b Replaced Added) (found ∙ ap (is_current editions) (is ∙ ap (id_of library) load)) ∙ ap (outcome_of library editions) (sym load)

  pub outcome-withdrawal : (library : List ℕ) (op : Op) (control : List ℕ) (key : RecordId) (was : Bool) → op ≡ Withdraw control → key ≡ id_of library op → was ≡ is_current editions key
      → cond was Removed Absent ≡ outcome_of library editions op
  outcome-withdrawal library op control key was gone is found =
      ap (λ b. cond b Removed Absent) (found ∙ ap (is_current editions) (is ∙ ap (id_of library) gone)) ∙ ap (outcome_of library editions) (sym gone)

nothing_ordered : IsStrictlySortedBy id_cmp (keys_of {X = Option Place} [])
unfolding IsStrictlySortedBy
nothing_ordered = tt

-- what was touched follows some of the operations, and the others are to come
pub record TouchesOn (all : List Batch) (homes : MapOf Home) (library : List ℕ) (ops : List Op) (start : MapOf Edition) (touched : MapOf (Option Place)) (found : List Outcome) (i : ℕ) : Type 0 where
  pub now : MapOf Edition
  pub follows : IsTouched all homes now touched
  pub left : fold (after_op library) now (drop i ops) ≡ fold (after_op library) start ops
  pub answers : found ++ outcomes library now (drop i ops) ≡ outcomes library start ops

pub touches-begin : (history : List HistoryEntry) (batch : Batch) (homes : MapOf Home) (touched : MapOf (Option Place)) (found : List Outcome) → touched ≡ [] → found ≡ []
    → StandFor (batches history) (places_in homes) (current history)
    → TouchesOn (batches history ++ batch ∷ []) homes batch.library batch.ops (current history) touched found 0
touches-begin history batch homes touched found none none' s = record {
  now = current history;
  follows = record {
    stands = λ id.
        ap (λ (pairs : MapOf (Option Place)). option_map (loaded_at (batches history ++ batch ∷ [])) (place_of homes pairs id)) none
        ∙ found-home (batches history ++ batch ∷ []) homes (current history) (stand-grown (batches history) (batch ∷ []) (places_in homes) (places_in homes) (current history) refl s) id;
    ordered = ordered-current history;
    single = single-turns [] history tt;
    touches = subst (λ (pairs : MapOf (Option Place)). IsStrictlySortedBy id_cmp (keys_of pairs)) (sym none) nothing_ordered;
  };
  left = refl;
  answers = ap (λ xs. xs ++ outcomes batch.library (current history) batch.ops) none';
}

module _ {all : List Batch} {homes : MapOf Home} {library : List ℕ} {ops : List Op} {start : MapOf Edition} {touched : MapOf (Option Place)} {found : List Outcome} {i : ℕ} (g : TouchesOn all homes library ops start touched found i) where
  pub touches-next : (op : Op) → i < length ops → op ≡ get_or ops i op → (touched' : MapOf (Option Place))
      → ((now : MapOf Edition) → IsTouched all homes now touched → IsTouched all homes (after_op library now op) touched')
      → (outcome : Outcome) → ((now : MapOf Edition) → IsTouched all homes now touched → outcome ≡ outcome_of library now op)
      → (found' : List Outcome) → found' ≡ found ++ outcome ∷ [] → TouchesOn all homes library ops start touched' found' (i + 1)
  touches-next op below is touched' follows outcome came found' pushed =
      let next : drop i ops ≡ op ∷ drop (suc i) ops = drop-cons ops i op below ∙ ap (λ (x : Op). x ∷ drop (suc i) ops) (sym is) in
      rw add-one (record {
        now = after_op library g.now op;
        follows = follows g.now g.follows;
        left = sym (ap (fold (after_op library) g.now) next) ∙ g.left;
        answers = ap (λ xs. xs ++ outcomes library (after_op library g.now op) (drop (suc i) ops)) pushed
            ∙ append_assoc found (outcome ∷ []) (outcomes library (after_op library g.now op) (drop (suc i) ops))
            ∙ ap (λ (o : Outcome). found ++ o ∷ outcomes library (after_op library g.now op) (drop (suc i) ops)) (came g.now g.follows)
            ∙ sym (ap (λ xs. found ++ outcomes library g.now xs) next)
            ∙ g.answers;
      })

  module _ (past : length ops ≤ i) where
    pub touches-all : IsTouched all homes (fold (after_op library) start ops) touched
    touches-all = subst (λ now. IsTouched all homes now touched) (sym (ap (fold (after_op library) g.now) (drop_of_length-le ops past)) ∙ g.left) g.follows

    pub answers-all : found ≡ outcomes library start ops
    answers-all = sym (append-nil found) ∙ sym (ap (λ xs. found ++ outcomes library g.now xs) (drop_of_length-le ops past)) ∙ g.answers
