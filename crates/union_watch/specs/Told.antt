-- What is told of the lines of a file of questions.
use Rattle.std.specs.Prelude.{◌≡◌, ℕ, List, [], ◌∷◌, ◌++◌, take, drop, codes, Result, Ok, Err}
use Rattle.std.specs.List.{flat_map, AllZip}
use Rattle.authority_names.specs.Leads.{Table}
use Rattle.catalogue_editions.specs.declared.history_entry.HistoryEntry.{HistoryEntry}
use Rattle.catalogue_query.specs.Queries.{query_of}
use Rattle.catalogue_query.specs.declared.answer.Answer.{Answer}
use Rattle.catalogue_query.specs.declared.query.Query.{Query}
use Rattle.catalogue_query.specs.declared.query.QueryRefusal.{QueryRefusal}
use Rattle.catalogue_query.specs.declared.query.QueryRefusal.TheVariants.{Unknown, Word as BadRest, Memory as QueryMemory}
use Rattle.catalogue_query.specs.LineTexts.{IsAnswer, ended_lines, refused_unknown, refused_word}
use Rattle.union_base.specs.OneLine.{shown}
use Rattle.union_words.specs.Texts.{line_feed}
use Rattle.union_watch.specs.AskLines.{AskLine, line_meaning}
use Rattle.union_watch.specs.declared.ask_line.AskLine.{AskLine as LineInPlace}
use Rattle.union_watch.specs.TurnLines.{six_digits}

-- what is told of a line: the answer over `over` turns, or why the line is refused
pub data Told : Type 0 where
  Reply : (over : ℕ) (line answer : List ℕ) → Told
  Refused : (refusal : QueryRefusal) → Told

-- `reply T LINE`
unfoldable pub reply_line : ℕ → List ℕ → List ℕ
reply_line over line = codes "reply " ++ (six_digits over ++ 0x20 ∷ (shown line ++ line_feed ∷ []))

-- the line for a question that is refused
abbrev pub refusal_text : QueryRefusal → List ℕ
refusal_text Unknown = refused_unknown
refusal_text BadRest = refused_word
refusal_text QueryMemory = []

-- the text of what is told
abbrev pub told_text : Told → List ℕ
told_text (Reply over line answer) = reply_line over line ++ answer
told_text (Refused refusal) = refusal_text refusal

-- the texts of all that was told, in order
abbrev pub told_text_of : List Told → List ℕ
told_text_of all = flat_map told_text all

-- it is what is told of a line that gives this query, or none for this reason, by these names and where the turns are those of the
-- history
abbrev pub IsToldOf : Table → List HistoryEntry → List ℕ → Result Query QueryRefusal → Told → Type 0
IsToldOf names history line (Ok query) (Reply over shown answer) = (shown ≡ line) × IsAnswer names query (take over history) answer
IsToldOf names history line (Ok query) (Refused refusal) = ⊥
IsToldOf names history line (Err refusal) (Reply over shown answer) = ⊥
IsToldOf names history line (Err refusal) (Refused other) = other ≡ refusal

-- one thing is told of each line, in the order of the lines: an answer over the first turns of the history, or a refusal (IsToldOf)
abbrev pub AreTold : Table → List HistoryEntry → List (List ℕ) → List Told → Type 0
AreTold names history lines told = AllZip (λ line. IsToldOf names history line (query_of line)) lines told

-- the number of turns of a reply
abbrev pub number_of : Told → List ℕ
number_of (Reply over line answer) = over ∷ []
number_of (Refused refusal) = []

-- over how many turns the questions are answered, in their order
abbrev pub numbers_of : List Told → List ℕ
numbers_of told = flat_map number_of told

-- what is told of the first of some lines, by the first of the replies where the line asks something
abbrev pub told_first : AskLine → List (ℕ × Answer) → List Told
told_first (Ok line) [] = []
told_first (Ok line) (reply ∷ replies) = Reply reply.0 line (ended_lines reply.1.lines) ∷ []
told_first (Err refusal) replies = Refused refusal ∷ []

-- the replies that are left for the lines after it
abbrev pub left_behind : AskLine → List (ℕ × Answer) → List (ℕ × Answer)
left_behind (Ok line) replies = drop 1 replies
left_behind (Err refusal) replies = replies

-- what is told of lines by the replies to those of them that ask something
abbrev pub told_of : List AskLine → List (ℕ × Answer) → List Told
told_of [] replies = []
told_of (line ∷ lines) replies = told_first line replies ++ told_of lines (left_behind line replies)

-- the text of what is told of a line, by the first of the replies
abbrev pub line_text : LineInPlace → List (ℕ × Answer) → List ℕ
line_text line replies = told_text_of (told_first (line_meaning line) replies)

-- the replies that are left after that line
abbrev pub left_after : LineInPlace → List (ℕ × Answer) → List (ℕ × Answer)
left_after line replies = left_behind (line_meaning line) replies
