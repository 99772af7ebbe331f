-- The parts of an export, as several workers make them.
use Rattle.std.specs.Prelude.{◌≡◌, ℕ, List}
use Rattle.std.specs.List.{flat_map}
use Rattle.union_base.specs.declared.record_id.RecordId.{RecordId}
use Rattle.catalogue_editions.specs.declared.edition.Edition.{Edition}
use Rattle.catalogue_export.specs.declared.by_workers.Part.{Part}

-- a part of an export has what is told of each of these editions, one after the other, and what is noted of each
pub record IsPartOf (told : Edition → List ℕ) (noted : Edition → List (RecordId × ℕ)) (editions : List Edition) (part : Part) : Type 0 where
  pub text : part.text.items ≡ flat_map told editions
  pub left : part.left.items ≡ flat_map noted editions
