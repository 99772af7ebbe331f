use Rattle.std.proofs.Common.{◌≡◌, ◌≤◌, ◌+◌, length}
use Rattle.union_keys.specs.Placed.{placed, placed_from}
use Rattle.union_keys.specs.Readings.{Read, TakesAll}
use Rattle.union_keys.proofs.reading.Reading.take_text.Given as goal

-- what is taken of the rest goes on with what was taken
abbrev pub invariant-loop-rest : goal.invariant-loop-rest
invariant-loop-rest l = record {
  taken : (after : Read) → TakesAll l.library l.number (placed_from l.first l.rest) l.self after
      → TakesAll l.library 1 (placed l.text) l.initial.self after;
  first : l.first + length l.rest ≡ length l.text;
  number : l.number ≤ l.first + 1;
}

abbrev pub decreases-loop-rest : goal.decreases-loop-rest
decreases-loop-rest l = length l.rest
