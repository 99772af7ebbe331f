-- the change so far fits
use Rattle.merge_tests.specs.SmallSets.{meet}
use Rattle.swoosh_resolver.specs.Changes.{Fits}
use Rattle.merge_tests.proofs.swoosh_resolver_tests.insert_together.Given as goal

abbrev pub invariant-loop-set : goal.invariant-loop-set
invariant-loop-set g l = Fits meet l.blocks.blocks l.change.closed.items l.change.opened.items
