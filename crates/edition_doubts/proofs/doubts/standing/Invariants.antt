use Rattle.std.proofs.Common.{◌≡◌, filter, take}
use Rattle.edition_doubts.specs.Doubts.{stands}
use Rattle.edition_doubts.proofs.doubts.standing.Given as goal

abbrev pub invariant-loop-doubt : goal.invariant-loop-doubt
invariant-loop-doubt l = l.found.items ≡ filter (stands l.records) (take l.doubt-index l.doubts)
