-- What is told of the turns of a load.
use Rattle.std.specs.Prelude.{◌≡◌, ℕ, ◌+◌, Bool, true, false, List, [], ◌∷◌, ◌++◌, length, codes, Vec}
use Rattle.std.specs.Global.{Global}
use Rattle.catalogue_core.specs.Histories.{AreEditionsOf, current, outcomes}
use Rattle.catalogue_core.specs.declared.delta.Delta.{Delta}
use Rattle.catalogue_editions.specs.declared.batch.Batch.{Batch}
use Rattle.catalogue_editions.specs.declared.edition.Edition.{Edition}
use Rattle.catalogue_editions.specs.declared.history_entry.HistoryEntry.{HistoryEntry}
use Rattle.catalogue_editions.specs.declared.outcome.Outcome.{Outcome}
use Rattle.change_notices.specs.Followers.{AreHeld}
use Rattle.change_notices.specs.Notices.{notice_lines}
use Rattle.edition_blocks.specs.Deltas.{IsDelta}
use Rattle.catalogue_query.specs.LineTexts.{ended_lines, six_digits}

-- the history with one turn more, by which the batch is applied under the number 0
abbrev pub with_turn : List HistoryEntry → Batch → List HistoryEntry
with_turn history batch = history ++ record { pass = 0; batch = batch } ∷ []

-- `notice T`
abbrev pub notice_head : ℕ → List ℕ
notice_head turn = codes "notice " ++ six_digits turn

-- the notice of the turn of that number, which closed and opened these editions: its line, and then the lines on each of them
abbrev pub notice_text : ℕ → List Edition → List Edition → List Edition → List Edition → List ℕ
notice_text turn before after closed opened =
    ended_lines (notice_head turn ∷ notice_lines before after closed opened)

-- the text is the notice of the turn by which the batch is applied over that history; the first turn of a history has the number 1
pub record IsNotice (history : List HistoryEntry) (batch : Batch) (text : List ℕ) : Type 0 where
  pub before : List Edition
  pub after : List Edition
  pub were : AreEditionsOf history before
  pub are : AreEditionsOf (with_turn history batch) after
  pub closed : List Edition
  pub opened : List Edition
  pub delta : IsDelta before after closed opened
  pub notice : text ≡ notice_text (length history + 1) before after closed opened

-- what is written of the turn: its notice where turns are told, and else nothing
abbrev pub TellsTurn : Bool → List HistoryEntry → Batch → List ℕ → Type 0
TellsTurn true history batch text = IsNotice history batch text
TellsTurn false history batch text = text ≡ []

-- what is written of the turns by which batches are applied, one after the other
abbrev pub TellsTurns : Bool → List HistoryEntry → List Batch → List ℕ → Type 0
TellsTurns told history [] text = text ≡ []
TellsTurns told history (batch ∷ batches) text =
    (first : List ℕ) × (rest : List ℕ) × TellsTurn told history batch first
    × TellsTurns told (with_turn history batch) batches rest × (text ≡ first ++ rest)

-- the notice of a turn of that number and delta was added to a text, whatever list of editions it leads to whichever other
abbrev pub AddsNotice : ℕ → Delta → List ℕ → List ℕ → Type 0
AddsNotice turn delta old new =
    (before after : List Edition) → AreHeld before → AreHeld after → IsDelta before after delta.closed.items delta.opened.items
    → new ≡ old ++ notice_text turn before after delta.closed.items delta.opened.items

-- such a text was added to a text
abbrev pub AddsText : (List ℕ → Type 0) → Vec ℕ Global → Vec ℕ Global → Type 0
AddsText IsOf old new = (told : List ℕ) × IsOf told × (new.items ≡ old.items ++ told)

-- what comes of a batch's operations over a history
abbrev pub outcomes_over : List HistoryEntry → Batch → List Outcome
outcomes_over history batch = outcomes batch.library (current history) batch.ops
