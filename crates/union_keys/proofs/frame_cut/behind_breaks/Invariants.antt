use Rattle.std.proofs.Common.{◌≡◌, ◌≤◌, length}
use Rattle.iso2709_frame.specs.Frames.{skip_breaks}
use Rattle.union_keys.proofs.frame_cut.behind_breaks.Given as goal

-- what was passed is skipped
abbrev pub invariant-loop-rest : goal.invariant-loop-rest
invariant-loop-rest l = record {
  value : skip_breaks l.piece ≡ skip_breaks l.rest;
  size : length l.rest ≤ length l.piece;
}

abbrev pub decreases-loop-rest : goal.decreases-loop-rest
decreases-loop-rest l = length l.rest
