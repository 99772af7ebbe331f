use Rattle.std.proofs.Common.{◌≡◌, ◌-◌}
use Rattle.union_trial.specs.Streams.{still_drawn}
use Rattle.union_trial.proofs.library_draws.LibraryDraws.next.Given as goal

-- the frames that were passed over belong to other libraries
abbrev pub invariant-loop-self : goal.invariant-loop-self
invariant-loop-self l = still_drawn l.self ≡ still_drawn l.initial.self

abbrev pub decreases-loop-self : goal.decreases-loop-self
decreases-loop-self l = l.self.count - l.self.number
