-- A block of a library's frames.
use Rattle.std.specs.Prelude.{◌≡◌, ℕ, ◌⊎◌, ◌≤◌, IsTrue, List, [], ◌++◌, length, map}
use Rattle.std.specs.List.{AllZip, list_all}
use Rattle.marc_fields.specs.Spelling.{spelling}
use Rattle.catalogue_core.specs.Batches.{is_own_op}
use Rattle.catalogue_editions.specs.declared.op.Op.{Op}
use Rattle.library_batches.specs.Batches.{IsOpOf}
use Rattle.union_trial.specs.TrialRecords.{record_of}
use Rattle.union_trial.specs.declared.draws.Draws.{Draws}

-- the operations are those of the frames of the draws that were taken
pub record AreAsked (library : List ℕ) (before now : List Draws) (taken : List Draws) (ops : List Op) : Type 0 where
  pub split : before ≡ taken ++ now
  pub asked : AllZip (IsOpOf [] library) (map (λ d. spelling (record_of d)) taken) ops
  pub own : IsTrue (list_all (is_own_op library) ops)

-- a whole block of 256 of them was taken, or all that there were
pub record IsBlockOf (library : List ℕ) (before now : List Draws) (ops : List Op) : Type 0 where
  pub taken : List Draws
  pub are : AreAsked library before now taken ops
  pub full : (length taken ≡ 256) ⊎ (now ≡ []) × (length taken ≤ 256)
