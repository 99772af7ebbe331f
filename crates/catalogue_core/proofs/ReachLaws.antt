-- Each batch has a reach, whatever the history.
use Rattle.std.proofs.Common.{◌≡◌, ℕ, ◌+◌, ◌*◌, Bool, true, false, List, [], ◌∷◌, ◌++◌, length, refl, ◌∙◌, inl, inr}
use Rattle.std.specs.List.{list_all, list_any}
use Rattle.std.specs.BTreeMap.{is_at}
use Rattle.std.specs.Map.{remove_entry, values_of}
use Rattle.std.proofs.lemmas.List.Elements.{Contains-append_right}
use Rattle.union_base.specs.Both.{both_true}
use Rattle.union_base.specs.declared.record_id.RecordId.{RecordId}
use Rattle.merge_laws.specs.Reach.{reach}
use Rattle.merge_laws.specs.Resolution.{member, IsResolution}
use Rattle.merge_laws.proofs.Places.{Contains-head}
use Rattle.union_base.specs.RecordIds.{id_cmp}
use Rattle.catalogue_editions.specs.Batches.{is_own_op}
use Rattle.catalogue_editions.specs.Ids.{least}
use Rattle.catalogue_editions.specs.Joining.{join}
use Rattle.catalogue_editions.specs.Matching.{match, is_found}
use Rattle.catalogue_editions.specs.declared.batch.Batch.{Batch}
use Rattle.catalogue_editions.specs.declared.edition.Edition.{Edition}
use Rattle.catalogue_editions.specs.declared.op.Op.{Op}
use Rattle.catalogue_editions.specs.declared.op.Op.TheVariants.{Load, Withdraw}
use Rattle.turn_plans.specs.Histories.{MapOf, id_of, is_current, after_op, current}
use Rattle.turn_plans.specs.Plans.{AreSingle}
use Rattle.turn_plans.specs.PreparedReaches.{without_named, without_all, IsReachOfLeaving, IsReachOfComing, IsReachOfParts}
use Rattle.turn_plans.specs.Reaches.{IsReachOfInsertion, IsReachOfWithdrawal, IsReachOfOp, IsReachOf}
use Rattle.catalogue_editions.specs.declared.history_entry.HistoryEntry.{HistoryEntry}
use Rattle.turn_plans.proofs.Contributors.{bears, member-from_any, bears-resolution, bears-current, single-remove, single-op, single-turns}

-- each list of editions has a resolution
module _ (resolution_of : (list : List Edition) → (resolution : List Edition) × IsResolution match join list resolution) where
  -- an edition that comes
  insertion-reach : (list : List Edition) (e : Edition) → (number : ℕ) × IsReachOfInsertion list e number
  insertion-reach list e =
      let before = resolution_of list in
      let after = resolution_of (before.0 ++ e ∷ []) in
      let by = after.1.covered e (member (Contains-append_right before.0 (e ∷ []) e (Contains-head e []))) in (
        reach match is_found before.0 by.0,
        record { before = before.0; resolved = before.1; after = after.0; grown = after.1; by = by.0; stands = by.1; dominates = by.2; is = refl },
      )

  -- a record that goes
  withdrawal-reach : (all : MapOf Edition) (id : RecordId) → AreSingle all → is_current all id ≡ true
      → (number : ℕ) × IsReachOfWithdrawal (values_of all) id number
  withdrawal-reach all id single stands =
      let before = resolution_of (values_of all) in
      let some : list_any (bears id) before.0 ≡ true
      = bears-resolution (values_of all) before.0 before.1 id ∙ (bears-current all single id ∙ stands) in
      let from = member-from_any (bears id) before.0 some in (
        length from.0.content.contributors * length from.0.content.contributors,
        record { before = before.0; resolved = before.1; from = from.0; stands = from.1; contributor = from.2; is = refl },
      )

  loading-reach : (library : List ℕ) (all : MapOf Edition) (e : Edition) (b : Bool) → is_current all (least e) ≡ b → AreSingle all
      → (number : ℕ) × IsReachOfOp library all (Load e) number
  loading-reach library all e true stands single =
      let first = withdrawal-reach all (least e) single stands in
      let then = insertion-reach (values_of (remove_entry (is_at (id_cmp (least e))) all)) e in
      (first.0 + then.0, inr (stands, record { first = first.0; then = then.0; withdrawal = first.1; insertion = then.1; is = refl }))
  loading-reach library all e false stands single = let comes = insertion-reach (values_of all) e in (comes.0, inl (stands, comes.1))

  withdrawing-reach : (library control : List ℕ) (all : MapOf Edition) (b : Bool) → is_current all (id_of library (Withdraw control)) ≡ b
      → AreSingle all → (number : ℕ) × IsReachOfOp library all (Withdraw control) number
  withdrawing-reach library control all true stands single =
      let goes = withdrawal-reach all (id_of library (Withdraw control)) single stands in (goes.0, inr (stands, goes.1))
  withdrawing-reach library control all false stands single = (0, inl (stands, refl))

  op-reach : (library : List ℕ) (all : MapOf Edition) (op : Op) → AreSingle all → (number : ℕ) × IsReachOfOp library all op number
  op-reach library all (Load e) single = loading-reach library all e (is_current all (least e)) refl single
  op-reach library all (Withdraw control) single =
      withdrawing-reach library control all (is_current all (id_of library (Withdraw control))) refl single

  ops-reach : (library : List ℕ) (all : MapOf Edition) (ops : List Op) → list_all (is_own_op library) ops ≡ true → AreSingle all
      → (number : ℕ) × IsReachOf library all ops number
  ops-reach library all [] own single = (0, refl)
  ops-reach library all (op ∷ ops) own single =
      let parts = both_true (is_own_op library op) (list_all (is_own_op library) ops) own in
      let first = op-reach library all op single in
      let rest = ops-reach library (after_op library all op) ops parts.1 (single-op library all op single parts.0) in
      (first.0 + rest.0, (first.0, rest.0, first.1, rest.1, refl))

  pub batch-reach : (history : List HistoryEntry) (batch : Batch) → (number : ℕ) × IsReachOf batch.library (current history) batch.ops number
  batch-reach history batch =
      ops-reach batch.library (current history) batch.ops (both_true _ (list_all (is_own_op batch.library) batch.ops) batch.fits).1
      (single-turns [] history tt)

  -- ---- the parts of a prepared batch

  leaving-step : (library : List ℕ) (all : MapOf Edition) (op : Op) (ops : List Op) (b : Bool) → is_current all (id_of library op) ≡ b → AreSingle all
      → (number : ℕ) × IsReachOfLeaving library (without_named library all op) ops number → (number : ℕ) × IsReachOfLeaving library all ops number
      → (number : ℕ) × IsReachOfLeaving library all (op ∷ ops) number
  leaving-step library all op ops true stands single without within =
      let first = withdrawal-reach all (id_of library op) single stands in
      (first.0 + without.0, inr (stands, (first.0, without.0, first.1, without.1, refl)))
  leaving-step library all op ops false stands single without within = (within.0, inl (stands, within.1))

  leaving-reach : (library : List ℕ) (all : MapOf Edition) (ops : List Op) → AreSingle all → (number : ℕ) × IsReachOfLeaving library all ops number
  leaving-reach library all [] single = (0, refl)
  leaving-reach library all (op ∷ ops) single =
      leaving-step library all op ops (is_current all (id_of library op)) refl single
      (leaving-reach library (without_named library all op) ops (single-remove all (is_at (id_cmp (id_of library op))) single))
      (leaving-reach library all ops single)

  coming-reach : (list parts : List Edition) → (number : ℕ) × IsReachOfComing list parts number
  coming-reach list [] = (0, refl)
  coming-reach list (part ∷ parts) =
      let first = insertion-reach list part in
      let rest = coming-reach (list ++ part ∷ []) parts in
      (first.0 + rest.0, (first.0, rest.0, first.1, rest.1, refl))

  pub parts-reach : (history : List HistoryEntry) (batch : Batch) (parts : List Edition)
      → (number : ℕ) × IsReachOfParts batch.library (current history) batch.ops parts number
  parts-reach history batch parts =
      let leaving = leaving-reach batch.library (current history) batch.ops (single-turns [] history tt) in
      let coming = coming-reach (values_of (without_all batch.library (current history) batch.ops)) parts in (
        leaving.0 + coming.0,
        record { leaving = leaving.0; coming = coming.0; withdrawals = leaving.1; insertions = coming.1; is = refl },
      )
