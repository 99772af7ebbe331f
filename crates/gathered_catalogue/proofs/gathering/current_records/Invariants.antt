-- the records of the libraries so far are collected
use Rattle.turn_plans.specs.Keeping.{batches}
use Rattle.gathered_catalogue.proofs.GatherLaws.{GathersOn}
use Rattle.gathered_catalogue.proofs.gathering.current_records.Given as goal

abbrev pub invariant-loop-places : goal.invariant-loop-places
invariant-loop-places l = GathersOn (batches l.history) l.libraries.entries l.places-iterator l.records.items
