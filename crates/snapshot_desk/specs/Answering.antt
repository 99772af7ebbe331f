-- What a viewer answers.
use Rattle.std.specs.Prelude.{◌≡◌, List}
use Rattle.std.specs.FinMap.{empty}
use Rattle.catalogue_core.specs.Histories.{current, AreEditionsOf}
use Rattle.catalogue_editions.specs.declared.history_entry.HistoryEntry.{HistoryEntry}
use Rattle.catalogue_editions.specs.declared.edition.Edition.{Edition}
use Rattle.catalogue_query.specs.Answers.{answer_lines}
use Rattle.catalogue_query.specs.declared.answer.Answer.{Answer}
use Rattle.catalogue_query.specs.declared.query.Query.{Query}

-- what the catalogue of that history, which has no names, answers to the query
abbrev pub IsAnswerOver : List HistoryEntry → Query → Answer → Type 0
IsAnswerOver history query told = (all : List Edition) × AreEditionsOf history all
    × (told.lines ≡ answer_lines empty query (current history) all)
