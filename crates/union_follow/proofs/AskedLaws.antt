-- Replies through a viewer, as replies over the catalogue of the load.
use Rattle.std.proofs.Common.{◌≡◌, ℕ, ◌≤◌, List, length}
use Rattle.std.specs.FinMap.{empty}
use mathlib.Core.List.{IsPrefix}
use Rattle.catalogue_editions.specs.declared.history_entry.HistoryEntry.{HistoryEntry}
use Rattle.catalogue_query.specs.declared.answer.Answer.{Answer}
use Rattle.catalogue_query.specs.declared.query.Query.{Query}
use Rattle.catalogue_query.specs.Replies.{Replied, AreReplies}
use Rattle.catalogue_core.specs.Entries.{entries_of}
use Rattle.load_sessions.proofs.ReplyLaws.{replied_over}
use Rattle.union_follow.proofs.EntryLaws.{entries_prefix}

-- what a viewer replied over a prefix of the history it replied over the history
pub replies_over : (seen history : List HistoryEntry) (low known : ℕ) (questions : List Query) (replies : List (ℕ × Answer)) → IsPrefix seen history
    → low ≤ known → Replied empty (entries_of seen) known questions replies → length replies ≡ length questions → AreReplies empty history low questions replies
replies_over seen history low known questions replies follows least replied all = record {
  replied = replied_over empty (entries_of seen) (entries_of history) low known questions replies (entries_prefix seen history follows) least replied;
  all = all;
}
