-- Where the frames of a text stand. They are those of `frames`: a piece ends after each record terminator, and CR and LF at its
-- beginning are no part of its frame. Offsets are counted from 0.
use Rattle.std.specs.Prelude.{ℕ, ◌+◌, ◌-◌, if◌then◌else◌, List, [], ◌∷◌, ◌++◌, length, map}
use Rattle.iso2709_frame.specs.declared.cut.Cut.{Cut}
use Rattle.iso2709_frame.specs.Frames.{is_terminator, first_piece, skip_breaks, cut_piece}

-- a frame: how many bytes stand before it, how many it has, which, how it was cut, and its bytes where it is whole
pub record Placed : Type 0 where
  pub first : ℕ
  pub size : ℕ
  pub text : List ℕ
  pub cut : Cut
  pub bytes : List ℕ

-- the frame that is cut so
abbrev pub placed_at : ℕ → List ℕ → Cut × List ℕ → Placed
placed_at first text cut = record { first = first; size = length text; text = text; cut = cut.0; bytes = cut.1 }

-- the frame in a piece that begins at that offset: none where the piece is CR and LF alone
abbrev pub placed_piece : ℕ → List ℕ → List Placed
placed_piece at piece =
    map (placed_at (at + (length piece - length (skip_breaks piece))) (skip_breaks piece)) (cut_piece piece)

-- the frames after the first piece of a text that begins at that offset
abbrev pub placed_later : ℕ → List ℕ → List Placed
placed_later at [] = []
placed_later at (byte ∷ rest) =
    (if is_terminator byte
    then placed_piece (at + 1) (first_piece rest) ++ placed_later (at + 1) rest
    else placed_later (at + 1) rest)

-- the frames of a text that begins at that offset
abbrev pub placed_from : ℕ → List ℕ → List Placed
placed_from at text = placed_piece at (first_piece text) ++ placed_later at text

-- the frames of a file in their order, the first of which has the number 1
abbrev pub placed : List ℕ → List Placed
placed text = placed_from 0 text

-- how the frame there was cut, with its bytes where it is whole
abbrev pub cut_at : Placed → Cut × List ℕ
cut_at frame = (frame.cut, frame.bytes)
