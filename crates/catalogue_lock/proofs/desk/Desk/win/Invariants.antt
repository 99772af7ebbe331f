use Rattle.std.proofs.Common.{◌≡◌}
use Rattle.catalogue_lock.specs.Steps.{Rests, Waited}
use Rattle.catalogue_lock.proofs.desk.Desk.win.Given as goal

abbrev pub invariant-loop : goal.invariant-loop
invariant-loop g l =
    (goal.iterator-loop g).can_next l.iterator' × (goal.iterator-loop g).is_finite l.iterator' × (l.place.table_id ≡ l.initial.place.table_id) × Rests l.place.me × Waited l.initial.place.me.0 l.place.me.0
