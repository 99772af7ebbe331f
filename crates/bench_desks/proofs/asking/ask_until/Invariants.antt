use Rattle.std.proofs.Common.{◌≡◌}
use Rattle.bench_desks.proofs.asking.ask_until.Given as goal

abbrev pub invariant-loop : goal.invariant-loop
invariant-loop g l = l.asking.viewer.book ≡ l.initial.asking.viewer.book
