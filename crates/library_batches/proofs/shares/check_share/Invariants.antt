use Rattle.std.proofs.Common.{◌≡◌, ◌+◌, [], take}
use Rattle.library_batches.specs.Blocks.{IsChecked}
use Rattle.library_batches.proofs.shares.check_share.Given as goal

-- the frames so far were checked
abbrev pub invariant-loop-frame : goal.invariant-loop-frame
invariant-loop-frame l = record {
  place : l.number ≡ (l.origin.number + l.start) + l.frame-index;
  checked : IsChecked l.origin.prefer.now l.origin.library.now (l.origin.number + l.start) (take l.frame-index l.frames) l.ops.items [] l.refused.items;
}
