use Rattle.std.proofs.Common.{append-nil}
use Rattle.swoosh_halves.proofs.both.Both.of.Goals as goal

pub returns-clause-met : goal.returns-clause-met
returns-clause-met g c =
    let opens = c.in_ok-met.ensures in
    rw (opens.last, c.empty.ensures) opens.are

pub returns-clause-free : goal.returns-clause-free
returns-clause-free g c =
    let opens = c.in_ok-met.ensures in
    rw (opens.last, c.empty.ensures, c.empty-2.ensures, append-nil opens.fresh) opens.free
