use Rattle.std.proofs.Common.{◌≡◌, ℕ, List, ◌++◌, length}
use Rattle.iso2709_frame.specs.Frames.{frames}
use Rattle.iso2709_frame.proofs.stream.add_cuts.Given as goal

-- the cuts so far and what is left give the same frames
abbrev pub invariant-loop-rest : goal.invariant-loop-rest
invariant-loop-rest l = (more : List ℕ) → l.initial.cuts.items ++ frames (l.initial.cutter.pending ++ (l.piece ++ more))
    ≡ l.cuts.items ++ frames (l.cutter.pending ++ (l.rest ++ more))

abbrev pub decreases-loop-rest : goal.decreases-loop-rest
decreases-loop-rest l = length l.rest
