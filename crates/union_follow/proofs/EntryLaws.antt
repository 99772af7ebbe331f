-- Histories and their entries, one turn more.
use Rattle.std.proofs.Common.{◌≡◌, ℕ, ◌==◌, List, [], ◌∷◌, ◌++◌, refl, sym, ap, subst, ◌∙◌, append_assoc, eq-eqb}
use Rattle.std.specs.Prelude.{map, filter}
use Rattle.std.specs.FinMap.{empty}
use Rattle.std.proofs.lemmas.List.{map-append}
use Rattle.std.proofs.lemmas.List.Elements.{filter-append}
use mathlib.Core.List.{IsPrefix}
use Rattle.catalogue_core.specs.Histories.{current, outcomes}
use Rattle.catalogue_editions.specs.declared.history_entry.HistoryEntry.{HistoryEntry}
use Rattle.catalogue_editions.specs.declared.batch.Batch.{Batch}
use Rattle.catalogue_lock.specs.History.{changes_of, IsPrefix as IsEntryPrefix}
use Rattle.catalogue_query.specs.declared.answer.Answer.{Answer}
use Rattle.catalogue_query.specs.declared.query.Query.{Query}
use Rattle.catalogue_core.specs.Entries.{entries_of, history_of}
use Rattle.catalogue_query.specs.Replies.{tells}
use Rattle.library_batches.specs.Tallies.{found}
use Rattle.load_sessions.proofs.AskLaws.{IsPrefix-same}
use Rattle.load_sessions.proofs.TallyLaws.{found-turn}
use Rattle.snapshot_desk.specs.Answering.{IsAnswerOver}
use Rattle.union_follow.specs.Turning.{turns_as}

abbrev pub pair : HistoryEntry → ℕ × Batch
pair entry = (entry.pass, entry.batch)

-- the entries of a prefix
pub entries_prefix : (xs ys : List HistoryEntry) → IsPrefix xs ys → IsEntryPrefix (entries_of xs) (entries_of ys)
entries_prefix xs ys p = (entries_of p.0, sym (map-append pair xs p.0) ∙ ap entries_of p.1)

-- a history is that of its entries
pub back : (history : List HistoryEntry) → history_of (entries_of history) ≡ history
back [] = refl
back (entry ∷ history) = ap (λ (rest : List HistoryEntry). entry ∷ rest) (back history)

-- an answer over a history is one over its entries
pub answer_told : (history : List HistoryEntry) (query : Query) (told : Answer) → IsAnswerOver history query told → tells empty (entries_of history) query told
answer_told history query told over = subst (λ (all : List HistoryEntry). IsAnswerOver all query told) (sym (back history)) over

changes_one : (pass : ℕ) (batch : Batch) → changes_of pass ((pass, batch) ∷ []) ≡ batch ∷ []
changes_one pass batch = rw (eq-eqb pass pass refl) refl

changes_more : (pass : ℕ) (entries : List (ℕ × Batch)) (batch : Batch)
    → changes_of pass (entries ++ (pass, batch) ∷ []) ≡ changes_of pass entries ++ batch ∷ []
changes_more pass entries batch =
    ap (map (λ (e : ℕ × Batch). e.1)) (filter-append (λ (e : ℕ × Batch). e.0 == pass) entries ((pass, batch) ∷ []))
    ∙ (map-append (λ (e : ℕ × Batch). e.1) (filter (λ (e : ℕ × Batch). e.0 == pass) entries) (filter (λ (e : ℕ × Batch). e.0 == pass) ((pass, batch) ∷ []))
    ∙ ap (λ (more : List Batch). changes_of pass entries ++ more) (changes_one pass batch))

entries_more : (history : List HistoryEntry) (pass : ℕ) (batch : Batch)
    → entries_of (history ++ record { pass = pass; batch = batch } ∷ []) ≡ entries_of history ++ (pass, batch) ∷ []
entries_more history pass batch = map-append pair history _

-- what came of the batches of a number, when one of them is applied
pub found_one_more : (history : List HistoryEntry) (pass : ℕ) (batch : Batch)
    → found (entries_of (history ++ record { pass = pass; batch = batch } ∷ [])) pass
    ≡ found (entries_of history) pass ++ outcomes batch.library (current history) batch.ops
found_one_more history pass batch =
    let seen = entries_of history in
    let later = entries_of (history ++ record { pass = pass; batch = batch } ∷ []) in
    let is : later ≡ seen ++ (pass, batch) ∷ [] = entries_more history pass batch in
    let more : changes_of pass later ≡ changes_of pass seen ++ batch ∷ [] = ap (changes_of pass) is ∙ changes_more pass seen batch in
    found-turn pass seen seen later (changes_of pass seen) (changes_of pass later) batch (outcomes batch.library (current history) batch.ops)
    refl refl more (IsPrefix-same seen) is (ap (λ h. outcomes batch.library (current h) batch.ops) (sym (back history)))

-- the turns of one batch more
pub turns_as_more : (history : List HistoryEntry) (pass : ℕ) (batches : List Batch) (batch : Batch)
    → (history ++ turns_as pass batches) ++ record { pass = pass; batch = batch } ∷ [] ≡ history ++ turns_as pass (batches ++ batch ∷ [])
turns_as_more history pass batches batch =
    append_assoc history (turns_as pass batches) _
    ∙ ap (λ turns. history ++ turns) (sym (map-append (λ (b : Batch). record { pass = pass; batch = b }) batches (batch ∷ [])))
