-- What is told of a file of questions by the replies to those that are asked beside a load and after it.
use Rattle.std.proofs.Common.{◌≡◌, ℕ, ◌++◌, List, length, subst}
use Rattle.authority_names.specs.Leads.{Table}
use Rattle.catalogue_editions.specs.declared.history_entry.HistoryEntry.{HistoryEntry}
use Rattle.catalogue_query.specs.declared.answer.Answer.{Answer}
use Rattle.catalogue_query.specs.declared.query.Query.{Query}
use Rattle.catalogue_query.specs.Replies.{AreReplies}
use Rattle.union_watch.specs.AskLines.{asked_lines, lines_in, questions_in}
use Rattle.union_watch.specs.Lateness.{beside, late, AreTimely}
use Rattle.union_watch.specs.Told.{AreTold, numbers_of, told_of}
use Rattle.union_watch.proofs.ToldLaws.{told-watched}

pub told-answered : (names : Table) (workers : ℕ) (text : List ℕ) (history : List HistoryEntry) (first last : List Query) (early later : List (ℕ × Answer))
    → first ≡ beside workers (questions_in text) → last ≡ late workers (questions_in text) → AreReplies names history 0 first early
    → AreReplies names history (length history) last later
    → AreTold names history (asked_lines text) (told_of (lines_in text) (early ++ later))
    × AreTimely workers (length history) (numbers_of (told_of (lines_in text) (early ++ later)))
told-answered names workers text history first last early later first_is last_is early_are later_are =
    let one : AreReplies names history 0 (beside workers (questions_in text)) early
    = subst (λ qs. AreReplies names history 0 qs early) first_is early_are in
    let other : AreReplies names history (length history) (late workers (questions_in text)) later
    = subst (λ qs. AreReplies names history (length history) qs later) last_is later_are in
    told-watched names workers text history early later one.replied one.all other.replied other.all
