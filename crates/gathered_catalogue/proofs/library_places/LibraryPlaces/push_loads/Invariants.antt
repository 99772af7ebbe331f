-- the editions at the places so far are appended
use Rattle.std.proofs.Common.{◌≡◌, ◌++◌}
use Rattle.std.specs.Prelude.{filter_map}
use Rattle.std.specs.Map.{values_of}
use Rattle.turn_plans.specs.Keeping.{batches, loaded_at}
use Rattle.gathered_catalogue.proofs.library_places.LibraryPlaces.push_loads.Given as goal

abbrev pub invariant-loop-place : goal.invariant-loop-place
invariant-loop-place l =
    l.records.items ++ filter_map (loaded_at (batches l.history)) l.place-iterator
    ≡ l.initial.records.items ++ filter_map (loaded_at (batches l.history)) (values_of l.self.rows)
