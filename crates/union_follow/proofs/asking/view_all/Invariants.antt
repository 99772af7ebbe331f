use Rattle.std.proofs.Common.{◌≡◌, ◌≤◌, ℕ, List, length, drop}
use Rattle.std.specs.FinMap.{empty}
use mathlib.Core.List.{IsPrefix}
use Rattle.catalogue_editions.specs.declared.history_entry.HistoryEntry.{HistoryEntry}
use Rattle.catalogue_core.specs.Entries.{entries_of}
use Rattle.load_sessions.proofs.AskLaws.{Leads}
use Rattle.union_follow.proofs.asking.view_all.Given as goal

-- the questions so far have their replies, and the next one is over as many turns at least as the bound
abbrev pub invariant-loop-question : goal.invariant-loop-question
invariant-loop-question l = record {
  book : l.viewer.book ≡ l.initial.viewer.book;
  seen : IsPrefix l.initial.viewer.seen l.viewer.seen;
  bound : ℕ;
  leads : Leads empty (length l.initial.viewer.learnt) l.questions l.replies.items bound (entries_of l.viewer.seen) (drop l.question-index l.questions);
  above : (next : List HistoryEntry) → IsPrefix l.viewer.seen next → IsPrefix l.viewer.learnt next → bound ≤ length next;
  count : length l.replies.items ≡ l.question-index;
}
