-- The editions of a history are one list.
use Rattle.std.proofs.Common.{◌≡◌, List}
use Rattle.turn_plans.specs.Histories.{bases, AreEditionsOf}
use Rattle.catalogue_editions.specs.declared.edition.Edition.{Edition}
use Rattle.catalogue_editions.specs.declared.history_entry.HistoryEntry.{HistoryEntry}
use Rattle.catalogue_editions.proofs.Apart.{one-ordered}

-- two lists that are the editions of one history are equal
pub same_editions_of : (history : List HistoryEntry) (one other : List Edition) → AreEditionsOf history one → AreEditionsOf history other → one ≡ other
same_editions_of history = one-ordered (bases history)
