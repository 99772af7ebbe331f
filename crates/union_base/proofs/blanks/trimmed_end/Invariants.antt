use Rattle.std.proofs.Common.{◌≡◌, length}
use Rattle.union_base.specs.Blanks.{trim_end}
use Rattle.union_base.proofs.blanks.trimmed_end.Given as goal

abbrev pub invariant-loop-last : goal.invariant-loop-last
invariant-loop-last l = trim_end l.text ≡ trim_end l.rest

abbrev pub decreases-loop-last : goal.decreases-loop-last
decreases-loop-last l = length l.rest
