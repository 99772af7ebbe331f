-- the value at hand and the view of the change so far, against the view at first
use Rattle.std.proofs.Common.{length}
use Rattle.merge_laws.proofs.Inserting.{IsInserting}
use Rattle.swoosh_resolver.specs.Changes.{view_of, CanStand, Fits}
use Rattle.swoosh_resolver.specs.Insertions.{KeepsUnmerged}
use Rattle.swoosh_resolver.proofs.blocks.Blocks.plan_insert.Given as goal

abbrev pub invariant-loop-value : goal.invariant-loop-value
invariant-loop-value g l = record {
  fits : Fits g.R.Resolvable.meets l.self.blocks l.change.closed.items l.change.opened.items;
  stands : CanStand g.R.Resolvable.meets l.self.blocks l.change.closed.items l.change.opened.items l.value.base;
  inserting : IsInserting g.R.Resolvable.meets g.R.Join.join g.R.Resolvable.is_found (view_of l.self.blocks l.fn.change.closed.items l.fn.change.opened.items) l.fn.value
      l.initial.steps l.steps l.value.value (view_of l.self.blocks l.change.closed.items l.change.opened.items);
  others : KeepsUnmerged g.R.Resolvable.meets g.R.Join.join l.self.blocks l.fn.change.closed.items l.fn.change.opened.items l.change.closed.items l.change.opened.items l.value.value;
}

abbrev pub decreases-loop-value : goal.decreases-loop-value
decreases-loop-value g l = length (view_of l.self.blocks l.change.closed.items l.change.opened.items)
