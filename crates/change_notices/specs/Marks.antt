-- Marks on the held editions that are closed.
use Rattle.std.specs.Prelude.{◌≡◌, ◌↔◌, ℕ, Bool, false, IsTrue, List, length, Some, Contains, slice_get, slice_index_or}
use Rattle.catalogue_editions.specs.declared.edition.Edition.{Edition}

-- a held edition is marked where it is among the closed ones
pub record AreMarked (held closed : List Edition) (marks : List Bool) : Type 0 where
  pub long : length marks ≡ length held
  pub each : (place : ℕ) (e : Edition) → slice_get held place ≡ Some e → IsTrue (slice_index_or marks place false) ↔ Contains closed e
