-- the places of the values so far that stand on one of the numbers
use Rattle.std.proofs.Common.{◌≡◌, take}
use Rattle.swoosh_resolver.specs.Looks.{StandsOn}
use Rattle.swoosh_resolver.proofs.Finding.{AreFound}
use Rattle.swoosh_resolver.proofs.opened.Opened.standing_on.Given as goal

abbrev pub invariant-loop-fresh : goal.invariant-loop-fresh
invariant-loop-fresh g l = record {
  place : l.place ≡ l.fresh-index;
  found : AreFound (StandsOn l.numbers) (take l.fresh-index l.fresh-items) l.places.items;
}
