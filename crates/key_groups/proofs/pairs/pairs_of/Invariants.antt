-- the pairs so far are those of the parts so far
use Rattle.std.proofs.Common.{◌≡◌, ◌++◌, map}
use Rattle.key_groups.specs.Notes.{ArePairs}
use Rattle.key_groups.proofs.pairs.pairs_of.Given as goal

abbrev pub invariant-loop-part : goal.invariant-loop-part
invariant-loop-part l = record {
  all : l.fn.parts.items ≡ l.yielded ++ l.part-iterator.rest.items;
  pairs : ArePairs (map (λ part. part.items) l.yielded) l.pairs.items;
}
