use Rattle.std.proofs.Common.{◌≡◌, ◌++◌}
use Rattle.work_clusters.specs.Room.{HasRoomForPairs}
use Rattle.work_clusters.specs.Steps.{PutsIn}
use Rattle.work_clusters.proofs.works.Works.put_in.Given as goal

-- the pairs so far entered, and there is room for the others
abbrev pub invariant-loop-key : goal.invariant-loop-key
invariant-loop-key l = record {
  done : PutsIn l.fn.self l.self l.yielded;
  all : l.fn.come.items ≡ l.yielded ++ l.key-iterator.rest.items;
  room : HasRoomForPairs l.self.room l.key-iterator.rest.items;
}
