-- the numbers are the given ones and those under the keys so far
use Rattle.std.proofs.Common.{take}
use Rattle.feature_index.specs.Postings.{numbers_of}
use Rattle.swoosh_resolver.proofs.Keys.{AreGathered}
use Rattle.swoosh_resolver.proofs.posting.candidates.Given as goal

abbrev pub invariant-loop-key : goal.invariant-loop-key
invariant-loop-key g l = AreGathered (numbers_of g.R.Key.PartialEq.eq l.postings) l.fn.given.items (take l.key-index l.keys) l.numbers.items
