-- the values of the first list, and those of the second so far, are resolved
use Rattle.std.proofs.Common.{◌≡◌, ◌+◌, ◌≤◌, false, ◌++◌}
use Rattle.std.specs.Prelude.{Contains, sum_by}
use Rattle.merge_laws.specs.Reach.{near}
use Rattle.merge_laws.proofs.InsertingAll.{ComesOn}
use Rattle.swoosh_resolver.specs.Tables.{AreFree, values_of}
use Rattle.swoosh_halves.proofs.both.resolve_both.Given as goal

abbrev pub invariant-loop-value : goal.invariant-loop-value
invariant-loop-value g l = record {
  coming : ComesOn g.R.Resolvable.meets g.R.Join.join g.R.Resolvable.is_found l.fn.one.items l.fn.other.items (values_of (l.both.met.items ++ l.both.apart.items)) l.yielded l.value-iterator.rest.items
      l.initial.steps l.steps;
  free : AreFree (l.both.met.items ++ l.both.apart.items);
  apart : (x : g.row.R.Denot) → Contains (values_of l.both.apart.items) x → Contains l.yielded x;
  untested : ((x y : g.row.R.Denot) → Contains l.fn.one.items x → Contains l.fn.other.items y → g.R.Resolvable.meets y x ≡ false)
      → (values_of l.both.met.items ≡ l.fn.one.items) × (l.steps ≤ l.initial.steps + sum_by (λ y. near g.R.Resolvable.is_found l.fn.one.items y) l.yielded);
}
