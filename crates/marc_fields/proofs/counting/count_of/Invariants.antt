use Rattle.std.proofs.Common.{◌≡◌, ◌+◌, ◌≤◌, length}
use Rattle.marc_fields.specs.Tilings.{count_of}
use Rattle.marc_fields.proofs.counting.count_of.Given as goal

-- the count so far and that of the rest are the whole
abbrev pub invariant-loop-rest : goal.invariant-loop-rest
invariant-loop-rest l = record {
  few : l.count + length l.rest ≤ length l.bytes;
  all : count_of l.byte l.bytes ≡ l.count + count_of l.byte l.rest;
}

abbrev pub decreases-loop-rest : goal.decreases-loop-rest
decreases-loop-rest l = length l.rest
