-- What came of the batches of one pass in a history.
use Rattle.std.specs.Prelude.{ℕ, ◌==◌, cond, List, [], ◌∷◌, ◌++◌}
use Rattle.catalogue_editions.specs.CurrentRecords.{MapOf, after_batch, outcomes}
use Rattle.catalogue_editions.specs.declared.batch.Batch.{Batch}
use Rattle.catalogue_editions.specs.declared.edition.Edition.{Edition}
use Rattle.catalogue_editions.specs.declared.outcome.Outcome.{Outcome}

-- what comes of the batches of that number among these entries, which are applied one after the other from these current
-- records on
abbrev pub found_from : MapOf Edition → ℕ → List (ℕ × Batch) → List Outcome
found_from all number [] = []
found_from all number (entry ∷ entries) =
    cond (entry.0 == number) (outcomes entry.1.library all entry.1.ops) [] ++ found_from (after_batch all entry.1) number entries

-- what came of the batches of that number in a history
abbrev pub found : List (ℕ × Batch) → ℕ → List Outcome
found entries number = found_from [] number entries
