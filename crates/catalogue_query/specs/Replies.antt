-- Replies over the entries of a history, as to what was asked beside a load and after it.
use Rattle.std.specs.Prelude.{◌≡◌, ℕ, ◌≤◌, ⊤, List, [], ◌∷◌, length, take}
use Rattle.authority_names.specs.Leads.{Table}
use Rattle.catalogue_core.specs.Entries.{entries_of, history_of}
use Rattle.catalogue_core.specs.Histories.{current, AreEditionsOf}
use Rattle.catalogue_editions.specs.declared.history_entry.HistoryEntry.{HistoryEntry}
use Rattle.catalogue_editions.specs.declared.batch.Batch.{Batch}
use Rattle.catalogue_editions.specs.declared.edition.Edition.{Edition}
use Rattle.catalogue_query.specs.Answers.{answer_lines}
use Rattle.catalogue_query.specs.declared.answer.Answer.{Answer}
use Rattle.catalogue_query.specs.declared.query.Query.{Query}

-- what is answered after these entries, by the names
abbrev pub tells : Table → List (ℕ × Batch) → Query → Answer → Type 0
tells names entries query told = (all : List Edition) × AreEditionsOf (history_of entries) all
    × (told.lines ≡ answer_lines names query (current (history_of entries)) all)

-- by the names, the replies are to the first questions, as many as there are: each is over the first entries of the history, as many as
-- it says, at least those that were known before, and at least those of the reply before it
abbrev pub Replied : Table → List (ℕ × Batch) → ℕ → List Query → List (ℕ × Answer) → Type 0
Replied names history known questions [] = ⊤
Replied names history known [] (reply ∷ replies) = ⊥
Replied names history known (question ∷ questions) (reply ∷ replies) =
    (known ≤ reply.0) × (reply.0 ≤ length history) × tells names (take reply.0 history) question reply.1 × Replied names history reply.0 questions replies

-- a reply to each question, by these names: each is over the first entries of the history, as many as it says, at least as many as were
-- known before, and at least those of the reply before it
pub record AreReplies (names : Table) (history : List HistoryEntry) (known : ℕ) (questions : List Query) (replies : List (ℕ × Answer)) : Type 0 where
  pub replied : Replied names (entries_of history) known questions replies
  pub all : length replies ≡ length questions
