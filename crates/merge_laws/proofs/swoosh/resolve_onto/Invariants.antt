-- What is left and what is done resolve to what the list resolves to. With n values left or done, of them b done, the
-- steps so far are at most k * k - n * n + b * b / 2: a value that is kept cost b tests, and b rises; a merge cost b
-- tests, and n falls. Each round takes a value from those left, or two from which one is left.
use Rattle.std.proofs.Common.{◌+◌, ◌*◌, ◌++◌, length}
use Rattle.merge_laws.proofs.Resolving.{IsResolving}
use Rattle.merge_laws.proofs.Spending.{IsSpent}
use Rattle.merge_laws.proofs.swoosh.resolve_onto.Given as goal

abbrev pub invariant-loop-value : goal.invariant-loop-value
invariant-loop-value g l = record {
  resolving : IsResolving g.R.Resolvable.meets g.R.Join.join (l.fn.apart.items ++ l.fn.more.items) l.left.items l.done.items;
  spent : IsSpent l.initial.steps (length l.fn.apart.items + length l.fn.more.items) l.steps (length l.left.items) (length l.done.items);
}

abbrev pub decreases-loop-value : goal.decreases-loop-value
decreases-loop-value g l = 2 * length l.left.items + length l.done.items
