use Rattle.std.proofs.Common.{◌≡◌, ◌+◌, ◌++◌, List, take}
use Rattle.catalogue_editions.specs.declared.outcome.Outcome.{Outcome}
use Rattle.library_batches.specs.Outcomes.{AreCounted, counted}
use Rattle.library_batches.proofs.outcome_counts.OutcomeCounts.count.Given as goal

-- the outcomes so far are counted
abbrev pub invariant-loop-outcome : goal.invariant-loop-outcome
invariant-loop-outcome l = record {
  more : (found : List Outcome) → AreCounted found l.initial.self → AreCounted (found ++ take l.outcome-index l.outcomes) l.self;
  total : counted l.self ≡ counted l.initial.self + l.outcome-index;
}
