use Rattle.swoosh_resolver.specs.Changes.{Fits, view_of}
use Rattle.catalogue_editions.specs.Joining.{join}
use Rattle.catalogue_editions.specs.Matching.{match, is_found}
use Rattle.merge_laws.proofs.InsertingAll.{ComesOn}
use Rattle.turn_plans.proofs.prepared.insert_parts.Given as goal

-- the parts so far were inserted
abbrev pub invariant-loop-part : goal.invariant-loop-part
invariant-loop-part g l = record {
  fits : Fits match l.blocks.blocks l.change.closed.items l.change.opened.items;
  coming : ComesOn match join is_found (view_of l.blocks.blocks l.initial.change.closed.items l.initial.change.opened.items) l.fn.parts.items
      (view_of l.blocks.blocks l.change.closed.items l.change.opened.items) l.yielded l.part-iterator.rest.items l.initial.steps l.steps;
}
