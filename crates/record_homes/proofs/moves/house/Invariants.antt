use Rattle.std.proofs.Common.{◌≡◌, take}
use Rattle.record_homes.specs.Moves.{housed}
use Rattle.record_homes.proofs.moves.house.Given as goal

abbrev pub invariant-loop-id : goal.invariant-loop-id
invariant-loop-id l = l.homes.entries ≡ housed l.number l.initial.homes.entries (take l.id-index l.ids)
