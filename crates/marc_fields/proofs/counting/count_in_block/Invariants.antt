use Rattle.std.proofs.Common.{◌≡◌, ◌+◌, ◌≤◌, drop}
use Rattle.marc_fields.specs.Tilings.{count_of}
use Rattle.marc_fields.proofs.counting.count_in_block.Given as goal

-- the count so far and that of the other bytes are the whole
abbrev pub invariant-loop-each : goal.invariant-loop-each
invariant-loop-each l = record {
  few : l.count ≤ l.each-index;
  all : count_of l.byte l.block ≡ l.count + count_of l.byte (drop l.each-index l.block);
}
