use Rattle.std.proofs.Common.{◌≡◌}
use Rattle.record_tests.proofs.union_io_tests.reads.Given as goal

abbrev pub invariant-loop : goal.invariant-loop
invariant-loop g l = g.S.Source.name l.source ≡ g.S.Source.name l.initial.source
