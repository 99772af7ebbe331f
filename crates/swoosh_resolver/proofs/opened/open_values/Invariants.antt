-- the values so far are opened
use Rattle.std.proofs.Common.{◌≡◌, ◌++◌}
use Rattle.swoosh_resolver.specs.Splits.{Opens}
use Rattle.swoosh_resolver.proofs.opened.open_values.Given as goal

abbrev pub invariant-loop-value : goal.invariant-loop-value
invariant-loop-value g l = record {
  rest : l.yielded ++ l.value-iterator.rest.items ≡ l.fn.values.items;
  opens : Opens l.fn.opened.items l.yielded l.opened.items;
}
