use Rattle.std.proofs.Common.{◌≡◌, Bor, map, drop}
use Rattle.std.specs.Prelude.{Option}
use Rattle.union_base.specs.declared.record_id.RecordId.{RecordId}
use Rattle.record_homes.specs.declared.place.Place.{Place}
use Rattle.record_homes.specs.Moves.{taken_back}
use Rattle.record_homes.proofs.HomeLaws.{LetsIn}
use Rattle.record_homes.proofs.moves.let_in.Given as goal

-- the ids so far are let in or listed; taking back those that came leaves what taking back the earlier ones leaves
abbrev pub invariant-loop-id : goal.invariant-loop-id
invariant-loop-id l = record {
  lets : LetsIn l.initial.homes.entries l.touched.entries l.homes.entries (map (λ (t : Bor RecordId × Option Place). (t.0.now, t.1)) l.rest.items) (drop l.id-index l.entries);
  back : taken_back l.homes.entries (map (λ id. id.now) l.came.items) ≡ taken_back l.initial.homes.entries (map (λ id. id.now) l.initial.came.items);
}
