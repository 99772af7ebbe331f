-- The steps of a derivation as text, each on a line.
use Rattle.std.specs.Prelude.{ℕ, ◌+◌, List, [], ◌∷◌, ◌++◌, codes, decimal}
use Rattle.catalogue_editions.specs.declared.edition.Edition.{Edition}
use Rattle.edition_derivations.specs.declared.step.Step.{Step}
use Rattle.why_texts.specs.Ids.{ids_text}
use Rattle.why_texts.specs.Reasons.{reasons_text}
use Rattle.why_texts.specs.Sources.{sources_text}

-- the ids of an edition's records
abbrev pub side_text : Edition → List ℕ
side_text e = ids_text e.content.contributors

-- the step's number, the records of both sides, and by what they match
unfoldable pub step_text : ℕ → Step → List ℕ
step_text number s =
    decimal number
    ++ (codes "  " ++ (side_text s.left ++ (codes " = " ++ (side_text s.right ++ (reasons_text s.left.features s.right.features ++ codes "\n")))))

-- the step, and which of the records brings each value that it names, from which field
unfoldable pub told_step : List Edition → ℕ → Step → List ℕ
told_step records number s = step_text number s ++ sources_text records s.left s.right

-- the steps, the first of which has that number
abbrev pub steps_text : List Edition → ℕ → List Step → List ℕ
steps_text records number [] = []
steps_text records number (s ∷ rest) = told_step records number s ++ steps_text records (number + 1) rest
