use Rattle.std.proofs.Common.{◌≡◌, ◌++◌, drop}
use Rattle.std.specs.List.{concat}
use Rattle.iso2709_frame.specs.Frames.{frames}
use Rattle.iso2709_frame.proofs.stream.cut_all.Given as goal

-- the cuts so far and those of what is left are those of the stream
abbrev pub invariant-loop-piece : goal.invariant-loop-piece
invariant-loop-piece l = frames (concat l.pieces) ≡ l.cuts.items ++ frames (l.cutter.pending ++ concat (drop l.piece-index l.pieces))
