-- the places follow the operations so far, of which each control number was taken
use Rattle.std.proofs.Common.{◌≡◌, ◌≤◌, ◌+◌, ◌++◌, ◌∷◌, [], length, map, drop, vec_capacity}
use Rattle.turn_plans.specs.Histories.{current}
use Rattle.turn_plans.specs.Keeping.{batches}
use Rattle.gathered_catalogue.specs.Tables.{Libraries}
use Rattle.gathered_catalogue.specs.Following.{control_of, AreFoundWith}
use Rattle.gathered_catalogue.proofs.FollowLaws.{FollowsOn}
use Rattle.gathered_catalogue.proofs.following.follow_each.Given as goal

abbrev pub invariant-loop-control : goal.invariant-loop-control
invariant-loop-control l = record {
  follows : (libraries : Libraries) → AreFoundWith (batches l.history) libraries l.batch.library l.initial.places.rows (current l.history)
      → FollowsOn (batches l.history ++ l.batch ∷ []) libraries l.batch.library l.batch.ops (current l.history) l.places.rows l.found.items l.i;
  controls : l.control-iterator.rest.items ≡ map control_of (drop l.i l.batch.ops);
  below : l.i ≤ length l.batch.ops;
  room : length l.batch.ops ≤ l.places.room + l.i;
  found : length l.found.items ≡ l.i;
  capacity : length l.batch.ops ≤ vec_capacity l.found;
}
