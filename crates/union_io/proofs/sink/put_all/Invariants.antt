use Rattle.std.proofs.Common.{◌≡◌, length}
use Rattle.union_io.proofs.Writes.{IsWrittenUpTo}
use Rattle.union_io.proofs.sink.put_all.Given as goal

abbrev pub invariant-loop-rest : goal.invariant-loop-rest
invariant-loop-rest g l =
    IsWrittenUpTo (g.O.Sink.written l.initial.out) (g.O.Sink.written l.out) l.text l.rest
    × (g.O.Sink.faults l.out ≡ g.O.Sink.faults l.initial.out)

abbrev pub decreases-loop-rest : goal.decreases-loop-rest
decreases-loop-rest g l = length l.rest
