-- the change so far fits
use Rattle.merge_tests.specs.SmallSets.{meet}
use Rattle.swoosh_resolver.specs.Changes.{Fits}
use Rattle.merge_tests.proofs.swoosh_resolver_tests.inserted_together.Given as goal

abbrev pub invariant-loop-mask : goal.invariant-loop-mask
invariant-loop-mask g l = Fits meet l.blocks-inside.blocks.items l.change.closed.items l.change.opened.items
