-- The steps that bring two records together.
use Rattle.std.specs.Prelude.{IsTrue, List, Contains}
use Rattle.union_base.specs.declared.record_id.RecordId.{RecordId}
use Rattle.catalogue_editions.specs.declared.edition.Edition.{Edition}
use Rattle.edition_derivations.specs.declared.step.Step.{Step}
use Rattle.edition_derivations.specs.Steps.{holds, IsDerivation}

-- by the steps, records come to an edition that has both records asked for
pub record Brings (records : List Edition) (one other : RecordId) (steps : List Step) (e : Edition) : Type 0 where
  pub derived : IsDerivation records steps e
  pub has_one : IsTrue (holds e one)
  pub has_other : IsTrue (holds e other)

-- the same, where all records that are kept are among the records
pub record IsShortened (records : List Edition) (one other : RecordId) (kept : List Edition) (steps : List Step) (e : Edition) : Type 0 where
  pub among : (r : Edition) → Contains kept r → Contains records r
  pub brings : Brings records one other steps e
