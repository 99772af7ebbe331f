-- those of the numbers so far that are closed
use Rattle.std.proofs.Common.{take}
use Rattle.swoosh_resolver.proofs.Vacating.{AreShut}
use Rattle.swoosh_resolver.proofs.insert.closed_among.Given as goal

abbrev pub invariant-loop-number : goal.invariant-loop-number
invariant-loop-number l = AreShut l.closed (take l.number-index l.numbers) l.shut.items
