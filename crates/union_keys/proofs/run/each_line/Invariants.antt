use Rattle.std.proofs.Common.{ℕ, List, [], length}
use Rattle.union_keys.specs.Lines.{AddsLines, alone}
use Rattle.union_keys.proofs.run.each_line.Given as goal

-- the lines of the records that are left go on with those that were added
abbrev pub invariant-loop-rest : goal.invariant-loop-rest
invariant-loop-rest l = (after : List ℕ) → AddsLines (alone l.rest) l.text.items after → AddsLines (alone l.standings) [] after

abbrev pub decreases-loop-rest : goal.decreases-loop-rest
decreases-loop-rest l = length l.rest
