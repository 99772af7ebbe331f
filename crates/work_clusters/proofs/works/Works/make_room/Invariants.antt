use Rattle.std.proofs.Common.{◌≡◌, ◌+◌, ◌≤◌, ℕ, List, take}
use Rattle.std.specs.Prelude.{count_by}
use Rattle.work_clusters.specs.Works.{is_key}
use Rattle.work_clusters.specs.Room.{room_under}
use Rattle.work_clusters.proofs.works.Works.make_room.Given as goal

-- there is room for the pairs so far
abbrev pub invariant-loop-key : goal.invariant-loop-key
invariant-loop-key l = record {
  works : l.self.works ≡ l.fn.self.works;
  room : (q : List ℕ) → room_under l.fn.self.room q + count_by (λ p. is_key q p.0) (take l.key-index l.key-items) ≤ room_under l.self.room q;
}
