-- The line of an edition that deserves a look, or its row in a table.
use Rattle.std.specs.Prelude.{ℕ, List, ◌++◌, length, codes, decimal, Option}
use Rattle.catalogue_editions.specs.Ids.{least}
use Rattle.catalogue_editions.specs.declared.edition.Edition.{Edition}
use Rattle.edition_derivations.specs.declared.step.Step.{Step}
use Rattle.edition_doubts.specs.declared.doubts.Doubt.{Doubt}
use Rattle.why_texts.specs.Ids.{id_text, ids_text, count_text}
use Rattle.why_texts.specs.Reasons.{of_some, reasons_text}
use Rattle.doubt_texts.specs.Cells.{cell_text}
use Rattle.doubt_texts.specs.Names.{names_text}

-- the records of both sides of a step, and by what they match
abbrev pub merge_text : Step → List ℕ
merge_text s =
    ids_text s.left.content.contributors
    ++ (codes " = " ++ (ids_text s.right.content.contributors ++ reasons_text s.left.features s.right.features))

-- the same, where there is a step
abbrev pub told_merge : Option Step → List ℕ
told_merge step = of_some step merge_text

-- an edition's id
unfoldable pub least_text : Edition → List ℕ
least_text e = id_text (least e)

-- an edition's id, how many records it has, the reasons, and the step
unfoldable pub line_text : Edition → List Doubt → Option Step → List ℕ
line_text e doubts step =
    least_text e
    ++ (codes "  "
    ++ (count_text (length e.content.contributors)
    ++ (codes "  " ++ (names_text doubts ++ (codes "  " ++ (told_merge step ++ codes "\n"))))))

-- the edition's id as a cell
unfoldable pub id_cell : Edition → List ℕ
id_cell e = cell_text (least_text e)

-- the reasons as a cell
unfoldable pub names_cell : List Doubt → List ℕ
names_cell doubts = cell_text (names_text doubts)

-- the step as a cell
unfoldable pub merge_cell : Option Step → List ℕ
merge_cell step = cell_text (told_merge step)

-- a row with these cells
unfoldable pub row_text : Edition → List Doubt → Option Step → List ℕ
row_text e doubts step =
    id_cell e
    ++ (codes ","
    ++ (decimal (length e.content.contributors)
    ++ (codes "," ++ (names_cell doubts ++ (codes "," ++ (merge_cell step ++ codes "\r\n"))))))
