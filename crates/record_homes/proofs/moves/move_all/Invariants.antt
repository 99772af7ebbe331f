use Rattle.std.proofs.Common.{◌≡◌, Bor, map}
use Rattle.std.specs.Prelude.{Option, fold}
use Rattle.union_base.specs.declared.record_id.RecordId.{RecordId}
use Rattle.record_homes.specs.declared.place.Place.{Place}
use Rattle.record_homes.specs.Moves.{moved}
use Rattle.record_homes.proofs.moves.move_all.Given as goal

abbrev pub invariant-loop-id : goal.invariant-loop-id
invariant-loop-id l =
    fold moved l.homes.entries (map (λ (t : Bor RecordId × Option Place). (t.0.now, t.1)) l.id-iterator.rest.items)
    ≡ fold moved l.initial.homes.entries (map (λ (t : Bor RecordId × Option Place). (t.0.now, t.1)) l.fn.touched.items)
