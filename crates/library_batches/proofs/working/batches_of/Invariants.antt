use Rattle.std.proofs.Common.{◌≡◌, ◌++◌}
use Rattle.library_batches.specs.Rounds.{AreGiven}
use Rattle.library_batches.proofs.working.batches_of.Given as goal

-- the blocks so far gave their batches
abbrev pub invariant-loop-work : goal.invariant-loop-work
invariant-loop-work l = record {
  all : l.fn.works.items ≡ l.yielded ++ l.work-iterator.rest.items;
  given : AreGiven l.origin.prefer.now l.origin.library.now l.yielded l.initial.refused.items l.refused.items l.batches.items;
}
