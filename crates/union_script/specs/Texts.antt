-- What a script writes, and how its lines change the catalogue.
use Rattle.std.specs.Prelude.{◌≡◌, ℕ, Bool, true, false, nat_lt, List, [], ◌∷◌, ◌++◌, length, map, Result, Ok, Err}
use Rattle.std.specs.List.{list_any}
use Rattle.std.specs.FinMap.{empty}
use Rattle.std.specs.Result.{is_err}
use Rattle.authority_names.specs.Leads.{Table}
use Rattle.catalogue_query.specs.Queries.{query_of}
use Rattle.catalogue_query.specs.declared.query.Query.{Query}
use Rattle.catalogue_query.specs.declared.query.QueryRefusal.{QueryRefusal}
use Rattle.catalogue_query.specs.declared.query.QueryRefusal.TheVariants.{Unknown, Word as BadRest, Memory as QueryMemory}
use Rattle.iso2709_frame.specs.Frames.{frames}
use Rattle.catalogue_core.specs.Histories.{current, AreEditionsOf}
use Rattle.catalogue_editions.specs.declared.batch.Batch.{Batch}
use Rattle.catalogue_editions.specs.declared.edition.Edition.{Edition}
use Rattle.catalogue_editions.specs.declared.history_entry.HistoryEntry.{HistoryEntry}
use Rattle.catalogue_export.specs.Editions.{export_text}
use Rattle.catalogue_export.specs.WorkLists.{works_text_of}
use Rattle.library_batches.specs.Streams.{Frame}
use Rattle.library_batches.specs.Refused.{refused}
use Rattle.library_batches.specs.Batches.{AreBatches}
use Rattle.library_batches.specs.Outcomes.{found_in}
use Rattle.library_batches.specs.Reports.{report_text}
use Rattle.union_words.specs.Lines.{lines_of, kept}
use Rattle.union_words.specs.ScriptLines.{ScriptLine, Load, Export, Works, Notices, Ask, Word, script_line}
use Rattle.union_files.specs.Limits.{Contents}
use Rattle.union_script.specs.Notices.{TellsTurns}
pub use Rattle.catalogue_query.specs.LineTexts.{refused_word, refused_unknown, ended_lines, IsAnswer}

-- what lines ask for, in their order, but for those that are skipped
abbrev pub asked_by : List (List ℕ) → List ScriptLine
asked_by lines = map script_line (kept lines)

-- what a line asks for where turns are told, or are not: it is a load that this changes
abbrev pub told_line : Bool → ScriptLine → ScriptLine
told_line told (Load alone file) = Load told file
told_line told Export = Export
told_line told Works = Works
told_line told Notices = Notices
told_line told (Ask line) = Ask line
told_line told Word = Word

-- whether turns are told after the line: from a line `notices` on they are
abbrev pub tells_after : Bool → ScriptLine → Bool
tells_after told (Load alone file) = told
tells_after told Export = told
tells_after told Works = told
tells_after told Notices = true
tells_after told (Ask line) = told
tells_after told Word = told

-- what lines ask for, one after the other, where turns are told before the first of them, or are not
abbrev pub told_from : Bool → List ScriptLine → List ScriptLine
told_from told [] = []
told_from told (line ∷ lines) = told_line told line ∷ told_from (tells_after told line) lines

-- whether turns are told after all of the lines
abbrev pub told_after : Bool → List ScriptLine → Bool
told_after told [] = told
told_after told (line ∷ lines) = told_after (tells_after told line) lines

-- what the lines of a script ask for: no turn is told before a line `notices`
abbrev pub script_of : List ℕ → List ScriptLine
script_of script = told_from false (asked_by (lines_of script))

-- the turns by which batches are applied: all under the number 0
abbrev pub turns_of : List Batch → List HistoryEntry
turns_of batches = map (λ batch. record { pass = 0; batch = batch }) batches

-- a library whose file has these frames is loaded, with no library preferred to another: its batches are applied, what is told of
-- their turns is written, and then its report
pub record Loads (told : Bool) (library : List ℕ) (all : List Frame) (history : List HistoryEntry) (text : List ℕ) (now : List HistoryEntry) : Type 0 where
  pub batches : List Batch
  pub read : AreBatches [] library all batches
  pub notices : List ℕ
  pub tells : TellsTurns told history batches notices
  pub report : text ≡ notices ++ report_text library all (found_in (current history) batches)
  pub applied : now ≡ history ++ turns_of batches

-- the text is the export of the catalogue of that history, by these names
pub record IsExport (names : Table) (history : List HistoryEntry) (text : List ℕ) : Type 0 where
  pub editions : List Edition
  pub resolved : AreEditionsOf history editions
  pub export : text ≡ export_text names editions

-- the text is the list of the works of the catalogue of that history, by these names
pub record IsWorkList (names : Table) (history : List HistoryEntry) (text : List ℕ) : Type 0 where
  pub editions : List Edition
  pub resolved : AreEditionsOf history editions
  pub works : text ≡ works_text_of names editions

-- what is written of a line that gives this query, or none for this reason
abbrev pub IsReply : Result Query QueryRefusal → List HistoryEntry → List ℕ → Type 0
IsReply (Ok query) history text = IsAnswer empty query history text
IsReply (Err Unknown) history text = text ≡ refused_unknown
IsReply (Err BadRest) history text = text ≡ refused_word
IsReply (Err QueryMemory) history text = ⊥

-- what a line writes over that history, with no table of names, and the history after it
abbrev pub Writes : Contents → ScriptLine → List HistoryEntry → List ℕ → List HistoryEntry → Type 0
Writes contents (Load told file) history text now = Loads told file.library (frames (contents file.path)) history text now
Writes contents Export history text now = IsExport empty history text × (now ≡ history)
Writes contents Works history text now = IsWorkList empty history text × (now ≡ history)
Writes contents Notices history text now = (text ≡ []) × (now ≡ history)
Writes contents (Ask line) history text now = IsReply (query_of line) history text × (now ≡ history)
Writes contents Word history text now = (text ≡ refused_word) × (now ≡ history)

-- what lines write, one after the other, and the history after them
abbrev pub ScriptText : Contents → List ScriptLine → List HistoryEntry → List ℕ → List HistoryEntry → Type 0
ScriptText contents [] history text now = (text ≡ []) × (now ≡ history)
ScriptText contents (line ∷ lines) history text now =
    (first : List ℕ) × (rest : List ℕ) × (between : List HistoryEntry)
    × Writes contents line history first between × ScriptText contents lines between rest now × (text ≡ first ++ rest)

-- a frame of it is refused
abbrev pub has_refused : List Frame → Bool
has_refused all = nat_lt 0 (length (refused all))

-- the line is refused, or loads a file that has a refused frame
abbrev pub is_refused : Contents → ScriptLine → Bool
is_refused contents (Load told file) = has_refused (frames (contents file.path))
is_refused contents Export = false
is_refused contents Works = false
is_refused contents Notices = false
is_refused contents (Ask line) = is_err (query_of line)
is_refused contents Word = true

-- something is refused in the lines
abbrev pub has_refusals : Contents → List ScriptLine → Bool
has_refusals contents lines = list_any (is_refused contents) lines
