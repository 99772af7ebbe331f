-- the numbers on which the values so far stand
use Rattle.std.proofs.Common.{take}
use Rattle.swoosh_resolver.proofs.Vacating.{AreStood}
use Rattle.swoosh_resolver.proofs.numbers.stood_on.Given as goal

abbrev pub invariant-loop-fresh : goal.invariant-loop-fresh
invariant-loop-fresh g l = AreStood (take l.fresh-index l.opened) l.numbers.items
