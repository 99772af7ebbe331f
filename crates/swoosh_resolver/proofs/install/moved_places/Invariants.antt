-- the places so far are changed
use Rattle.std.proofs.Common.{◌≡◌, ◌++◌, length, map, take, drop}
use Rattle.std.specs.Prelude.{slice_index}
use Rattle.swoosh_resolver.proofs.install.moved_places.Given as goal

abbrev pub invariant-loop-i : goal.invariant-loop-i
invariant-loop-i l = record {
  len : length l.places.items ≡ length l.fn.places.items;
  done : l.places.items ≡ map (λ place. slice_index l.rows place) (take l.i l.fn.places.items) ++ drop l.i l.fn.places.items;
}
