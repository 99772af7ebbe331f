-- the merge so far, and the values that are not in it
use Rattle.std.proofs.Common.{◌≡◌, None, ◌++◌, length}
use Rattle.std.specs.Prelude.{Contains}
use Rattle.merge_laws.proofs.Inserting.{IsInserting}
use Rattle.swoosh_resolver.specs.Tables.{AreFree, values_of}
use Rattle.swoosh_halves.proofs.both.Both.with_merge.Given as goal

abbrev pub invariant-loop-value : goal.invariant-loop-value
invariant-loop-value g l = record {
  alone : l.value.base ≡ None;
  free : AreFree (l.both.met.items ++ l.both.apart.items);
  inserting : IsInserting g.R.Resolvable.meets g.R.Join.join g.R.Resolvable.is_found (values_of (l.fn.self.met.items ++ l.fn.self.apart.items)) l.fn.merge l.initial.steps l.steps l.value.value
      (values_of (l.both.met.items ++ l.both.apart.items));
  apart : (x : g.row.R.Denot) → Contains (values_of l.both.apart.items) x → Contains (values_of l.fn.self.apart.items) x;
}

abbrev pub decreases-loop-value : goal.decreases-loop-value
decreases-loop-value g l = length (l.both.met.items ++ l.both.apart.items)
