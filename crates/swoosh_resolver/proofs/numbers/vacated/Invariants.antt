-- the closed numbers so far on which no opened value stands
use Rattle.std.proofs.Common.{take}
use Rattle.swoosh_resolver.specs.Changes.{AreVacated}
use Rattle.swoosh_resolver.proofs.numbers.vacated.Given as goal

abbrev pub invariant-loop-number : goal.invariant-loop-number
invariant-loop-number g l = AreVacated (take l.number-index l.closed) l.opened l.vacated.items
