-- the numbers of the values so far
use Rattle.std.proofs.Common.{take}
use Rattle.swoosh_resolver.proofs.Giving.{AreGiving}
use Rattle.swoosh_resolver.proofs.numbers.numbers_for.Given as goal

abbrev pub invariant-loop-fresh : goal.invariant-loop-fresh
invariant-loop-fresh g l = AreGiving l.vacated l.first (take l.fresh-index l.opened) l.place l.numbers.items
