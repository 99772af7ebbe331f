-- The editions of current records under their ids, and what the operations of a batch make of them.
pub use Rattle.union_base.specs.RecordIds.{MapOf, at_id}
use Rattle.std.specs.Prelude.{ℕ, Bool, is_some, if◌then◌else◌, List, [], ◌∷◌, fold, Option}
use Rattle.std.specs.BTreeMap.{is_at, insert_entry}
use Rattle.std.specs.Map.{lookup, remove_entry}
use Rattle.union_base.specs.RecordIds.{id_cmp}
use Rattle.union_base.specs.declared.record_id.RecordId.{RecordId}
use Rattle.catalogue_editions.specs.Ids.{least}
use Rattle.catalogue_editions.specs.declared.edition.Edition.{Edition}
use Rattle.catalogue_editions.specs.declared.op.Op.{Op}
use Rattle.catalogue_editions.specs.declared.op.Op.TheVariants.{Load, Withdraw}
use Rattle.catalogue_editions.specs.declared.batch.Batch.{Batch}
use Rattle.catalogue_editions.specs.declared.outcome.Outcome.{Outcome}
use Rattle.catalogue_editions.specs.declared.outcome.Outcome.TheVariants.{Added, Replaced, Removed, Absent}

-- whether the id has a value
abbrev pub is_current : {X : Type 0} → MapOf X → RecordId → Bool
is_current all id = is_some (at_id all id)

-- the id of the library's record that the operation loads or withdraws
abbrev pub id_of : List ℕ → Op → RecordId
id_of library (Load e) = least e
id_of library (Withdraw number) = record { library = library; control = number }

-- the editions of the current records after an operation of the library: a load puts its edition under its id, in place of
-- an earlier one, and a withdrawal takes away what is under its id
abbrev pub after_op : List ℕ → MapOf Edition → Op → MapOf Edition
after_op library all (Load e) = insert_entry id_cmp all (least e) e
after_op library all (Withdraw number) = remove_entry (is_at (id_cmp (id_of library (Withdraw number)))) all

-- the same after the operations of a batch, in their order
abbrev pub after_batch : MapOf Edition → Batch → MapOf Edition
after_batch all b = fold (after_op b.library) all b.ops

-- what comes of an operation over what is under these ids
abbrev pub outcome_of : {X : Type 0} → List ℕ → MapOf X → Op → Outcome
outcome_of library all (Load e) = (if is_current all (least e) then Replaced else Added)
outcome_of library all (Withdraw number) = (if is_current all (id_of library (Withdraw number)) then Removed else Absent)

-- what comes of operations, each by the records that are current just before it
abbrev pub outcomes : List ℕ → MapOf Edition → List Op → List Outcome
outcomes library all [] = []
outcomes library all (op ∷ ops) = outcome_of library all op ∷ outcomes library (after_op library all op) ops
