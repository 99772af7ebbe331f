use Rattle.std.proofs.Common.{◌≡◌, length, take}
use Rattle.library_batches.specs.Works.{frames_of}
use Rattle.library_batches.proofs.working.frame_count.Given as goal

-- the frames of the blocks before this place are counted
abbrev pub invariant-loop-work : goal.invariant-loop-work
invariant-loop-work l = l.count ≡ length (frames_of (take l.work-index l.works))
