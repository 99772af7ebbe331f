-- What the plain catalogue makes anew at each turn.
use Rattle.std.proofs.Common.{◌≡◌, ℕ, ◌+◌, ◌<◌, cond, IsTrue, List, [], ◌∷◌, ◌++◌, length, get_or, take, refl, sym, ap, ◌∙◌, arith}
use Rattle.std.specs.Prelude.{fold, Option, is_some}
use Rattle.std.specs.BTreeMap.{is_at, insert_entry}
use Rattle.std.specs.Map.{remove_entry}
use Rattle.std.proofs.lemmas.List.{take_more}
use Rattle.std.proofs.lemmas.List.Sums.{fold-append}
use Rattle.union_base.specs.declared.record_id.RecordId.{RecordId}
use Rattle.merge_laws.proofs.Places.{AllPairs-none}
use Rattle.merge_laws.proofs.Resolutions.{IsResolution-from_apart}
use Rattle.union_base.specs.RecordIds.{id_cmp}
use Rattle.catalogue_core.specs.Ids.{least}
use Rattle.catalogue_core.specs.JoinLaws.{edition_join_laws}
use Rattle.catalogue_core.specs.Matching.{match}
use Rattle.catalogue_core.specs.MatchLaws.{edition_match_laws}
use Rattle.catalogue_core.specs.Histories.{MapOf, at_id, after_op, outcome_of, outcomes, AreEditionsOf}
use Rattle.catalogue_editions.specs.declared.edition.Edition.{Edition}
use Rattle.catalogue_editions.specs.declared.op.Op.{Op}
use Rattle.catalogue_editions.specs.declared.op.Op.TheVariants.{Load, Withdraw}
use Rattle.catalogue_editions.specs.declared.outcome.Outcome.{Outcome}
use Rattle.catalogue_editions.specs.declared.outcome.Outcome.TheVariants.{Added, Replaced, Removed, Absent}

-- a catalogue without history has no editions
pub nothing : AreEditionsOf [] []
nothing = record {
  resolved = IsResolution-from_apart edition_join_laws edition_match_laws [] [] (λ e (k, kl, h). absurd (omega arith)) (λ x (k, kl, h). absurd (omega arith))
      (AllPairs-none (λ x y. (IsTrue (match x y) → ⊥) × (IsTrue (match y x) → ⊥)));
  ascending = refl;
}

-- ---- one operation

pub loaded : (library : List ℕ) (all next : MapOf Edition) (op : Op) (e copy : Edition) (id : RecordId) → op ≡ Load e → id ≡ least e → copy ≡ e
    → next ≡ insert_entry id_cmp all id copy → next ≡ after_op library all op
loaded library all next op e copy id is same copied inserted =
    inserted ∙ ap (λ i. insert_entry id_cmp all i copy) same ∙ ap (insert_entry id_cmp all (least e)) copied ∙ ap (after_op library all) (sym is)

pub load-came : (library : List ℕ) (all : MapOf Edition) (op : Op) (e : Edition) (id : RecordId) (before : Option Edition) → op ≡ Load e → id ≡ least e
    → before ≡ at_id all id → cond (is_some before) Replaced Added ≡ outcome_of library all op
load-came library all op e id before is same found =
    ap (λ o. cond (is_some o) Replaced Added) (found ∙ ap (at_id all) same) ∙ ap (outcome_of library all) (sym is)

pub withdrawn : (library : List ℕ) (all next : MapOf Edition) (op : Op) (number copy : List ℕ) → op ≡ Withdraw number → copy ≡ number
    → next ≡ remove_entry (is_at (id_cmp (record { library = library; control = copy }))) all → next ≡ after_op library all op
withdrawn library all next op number copy is copied removed =
    removed ∙ ap (λ n. remove_entry (is_at (id_cmp (record { library = library; control = n }))) all) copied ∙ ap (after_op library all) (sym is)

pub withdrawal-came : (library : List ℕ) (all : MapOf Edition) (op : Op) (number copy : List ℕ) (before : Option Edition) → op ≡ Withdraw number → copy ≡ number
    → before ≡ at_id all (record { library = library; control = copy }) → cond (is_some before) Removed Absent ≡ outcome_of library all op
withdrawal-came library all op number copy before is copied found =
    ap (λ o. cond (is_some o) Removed Absent) (found ∙ ap (λ n. at_id all (record { library = library; control = n })) copied) ∙ ap (outcome_of library all) (sym is)

-- ---- one operation more

outcomes-more : (library : List ℕ) (all : MapOf Edition) (ops : List Op) (op : Op)
    → outcomes library all (ops ++ op ∷ []) ≡ outcomes library all ops ++ outcome_of library (fold (after_op library) all ops) op ∷ []
outcomes-more library all [] op = refl
outcomes-more library all (first ∷ ops) op =
    ap (λ (rest : List Outcome). outcome_of library all first ∷ rest) (outcomes-more library (after_op library all first) ops op)

-- what the first operations made of the records
pub record IsFollowed (library : List ℕ) (all : MapOf Edition) (ops : List Op) (now : MapOf Edition) (found : List Outcome) : Type 0 where
  pub records : now ≡ fold (after_op library) all ops
  pub came : found ≡ outcomes library all ops

pub followed-more : (library : List ℕ) (all now next : MapOf Edition) (ops : List Op) (i : ℕ) (op : Op) (found more : List Outcome) (outcome : Outcome)
    → IsFollowed library all (take i ops) now found → i < length ops → op ≡ get_or ops i op
    → next ≡ after_op library now op → outcome ≡ outcome_of library now op → more ≡ found ++ outcome ∷ []
    → IsFollowed library all (take (i + 1) ops) next more
followed-more library all now next ops i op found more outcome f below is follows answers pushed =
    let whole : take (i + 1) ops ≡ take i ops ++ op ∷ [] = take_more ops i op below ∙ ap (λ (x : Op). take i ops ++ x ∷ []) (sym is) in
    record {
      records = follows ∙ ap (λ a. after_op library a op) f.records ∙ sym (fold-append (after_op library) all (take i ops) (op ∷ [])) ∙ ap (fold (after_op library) all) (sym whole);
      came = pushed ∙ ap (λ xs. xs ++ outcome ∷ []) f.came
          ∙ ap (λ (o : Outcome). outcomes library all (take i ops) ++ o ∷ []) (answers ∙ ap (λ a. outcome_of library a op) f.records)
          ∙ sym (outcomes-more library all (take i ops) op) ∙ ap (outcomes library all) (sym whole);
    }
