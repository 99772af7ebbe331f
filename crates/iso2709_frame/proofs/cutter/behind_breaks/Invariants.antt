use Rattle.std.proofs.Common.{◌≡◌, length}
use Rattle.iso2709_frame.specs.Frames.{skip_breaks}
use Rattle.iso2709_frame.proofs.cutter.behind_breaks.Given as goal

-- what was passed is skipped
abbrev pub invariant-loop-rest : goal.invariant-loop-rest
invariant-loop-rest l = skip_breaks l.text ≡ skip_breaks l.rest

abbrev pub decreases-loop-rest : goal.decreases-loop-rest
decreases-loop-rest l = length l.rest
