-- What a cutter is: the bytes that wait for the end of their frame, and the frame that it lends.
use Rattle.std.specs.Prelude.{ℕ, suc, List, [], ◌∷◌, replicate, Option, Some, None}
use Rattle.iso2709_frame.specs.declared.cut.Cut.{Cut}

-- `pending` is as good as what was fed since the last cut: whatever follows, the frames are the same
pub record Cutting : Type 0 where
  pub pending : List ℕ
  pub frame : List ℕ

-- nothing waits, and no frame is lent
abbrev pub fresh : Cutting
fresh = record { pending = []; frame = [] }

-- the length of the largest frame, as a number that is not computed with
unfoldable pub largest : ℕ
largest = 99999

-- what stands for the bytes of a frame that is too long already, which are not kept
unfoldable pub too_long : List ℕ
too_long = replicate (suc largest) 0

-- what an answer says of the stream: at most one cut, with the frame that is lent
abbrev pub told : Option Cut → List ℕ → List (Cut × List ℕ)
told None frame = []
told (Some cut) frame = (cut, frame) ∷ []
