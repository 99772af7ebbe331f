-- the values so far are moved
use Rattle.std.proofs.Common.{◌≡◌, ◌++◌, map}
use Rattle.swoosh_resolver.specs.Tables.{at_rows}
use Rattle.swoosh_resolver.proofs.install.moved_all.Given as goal

abbrev pub invariant-loop-fresh : goal.invariant-loop-fresh
invariant-loop-fresh g l = record {
  done : l.moved.items ≡ map (at_rows l.rows) l.yielded;
  rest : l.yielded ++ l.fresh-iterator.rest.items ≡ l.fn.values.items;
}
