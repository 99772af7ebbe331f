use Rattle.std.proofs.Common.{◌≡◌, ◌++◌, List, length}
use Rattle.catalogue_editions.specs.declared.history_entry.HistoryEntry.{HistoryEntry as Entry}
use Rattle.snapshot_desk.proofs.publisher.Publisher.publish.Given as goal

-- some of what was pending is published, and the rest is pending
abbrev pub invariant-loop-self : goal.invariant-loop-self
invariant-loop-self g l = (l.self.book ≡ l.initial.self.book)
    × ((more : List Entry) × (l.self.published ≡ l.initial.self.published ++ more) × (more ++ l.self.pending ≡ l.initial.self.pending))

abbrev pub decreases-loop-self : goal.decreases-loop-self
decreases-loop-self g l = length l.self.pending
