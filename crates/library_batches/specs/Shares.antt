-- The shares of frames that several workers check.
use Rattle.std.specs.Prelude.{◌≡◌, ℕ, ◌+◌, List, [], ◌∷◌, ◌++◌, length, take, drop, Result, IfOk}
use Rattle.library_batches.specs.Streams.{Frame}
use Rattle.library_batches.specs.Refused.{refused_from}
use Rattle.library_batches.specs.Blocks.{IsChecked}
use Rattle.library_batches.specs.declared.refused.RefusedFrame.{RefusedFrame}
use Rattle.library_batches.specs.declared.shares.Checked.{Checked}

-- the frames of a share, numbered from that number on, were checked
abbrev pub IsShare : List (List ℕ) → List ℕ → ℕ → List Frame → Checked → Type 0
IsShare prefer library start frames part = IsChecked prefer library start frames part.ops.items [] part.refused.items

-- each share that was checked is that of the next `size` of the frames, and the last one that of what is left; the frames are
-- numbered from that number on
abbrev pub AreShares : {E : Type 0} → List (List ℕ) → List ℕ → ℕ → ℕ → List Frame → List (Result Checked E) → Type 0
AreShares prefer library size start frames [] = frames ≡ []
AreShares prefer library size start frames (made ∷ more) =
    IfOk made (IsShare prefer library start (take size frames))
    × AreShares prefer library size (start + length (take size frames)) (drop size frames) more

-- the first of the frames, numbered from that number on, were checked, and the refused ones among them were added
pub record KeepsFront (start : ℕ) (frames : List Frame) (before now : List RefusedFrame) : Type 0 where
  pub checked : List Frame
  pub rest : List Frame
  pub all : frames ≡ checked ++ rest
  pub refused : now ≡ before ++ refused_from start checked
