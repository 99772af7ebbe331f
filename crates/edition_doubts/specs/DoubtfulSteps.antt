-- The step by which the records of a doubtful edition came together.
use Rattle.std.specs.Prelude.{◌||◌, Bool, List, filter}
use Rattle.match_features.specs.Kept.{has_some}
use Rattle.catalogue_editions.specs.Ids.{least}
use Rattle.catalogue_editions.specs.declared.edition.Edition.{Edition}
use Rattle.edition_derivations.specs.Steps.{holds}
use Rattle.edition_derivations.specs.declared.step.Step.{Step}
use Rattle.edition_doubts.specs.Doubts.{doubts_of}

-- one of the two sides of the step has the record
abbrev pub is_brought : Step → Edition → Bool
is_brought s r = holds s.left (least r) || holds s.right (least r)

-- the records that the step brings together
abbrev pub brought : Step → List Edition → List Edition
brought s records = filter (is_brought s) records

-- a reason stands of these
abbrev pub is_doubtful_step : List Edition → Step → Bool
is_doubtful_step records s = has_some (doubts_of (brought s records))
