-- the holdings follow the turns so far
use Rattle.std.proofs.Common.{take}
use Rattle.turn_plans.specs.Histories.{current}
use Rattle.catalogue_export.specs.HeldRecords.{AreHeld}
use Rattle.catalogue_export.proofs.records.holdings_of.Given as goal

abbrev pub invariant-loop-turn : goal.invariant-loop-turn
invariant-loop-turn l = AreHeld l.holdings.entries (current (take l.turn l.catalogue.history))
