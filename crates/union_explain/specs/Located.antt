-- Where the frames of a stream stand. A frame reaches up to and with its record terminator (ISO 2709), or to the end of the
-- stream; CR and LF before it are no part of it (this project's own). Offsets are counted from 0.
use Rattle.std.specs.Prelude.{◌≡◌, ℕ, ◌+◌, ◌-◌, Bool, nat_lt, if◌then◌else◌, List, [], ◌∷◌, ◌++◌, length, take, Option}
use Rattle.std.specs.List.{list_any}
use Rattle.std.specs.Option.{option_map}
use Rattle.iso2709_frame.specs.Frames.{is_terminator, first_piece, skip_breaks}

-- a frame: the offset of its first byte, how many bytes it has, whether a record terminator ends it, and the first 99,999 of its
-- bytes, the most that a frame may have
pub record Located : Type 0 where
  pub first : ℕ
  pub size : ℕ
  pub ended : Bool
  pub bytes : List ℕ

-- the frame in a piece that begins at an offset, after its CR and LF
abbrev pub frame_at : ℕ → List ℕ → Located
frame_at at piece = record {
  first = at + (length piece - length (skip_breaks piece));
  size = length (skip_breaks piece);
  ended = list_any is_terminator piece;
  bytes = take 99999 (skip_breaks piece);
}

-- the byte was added to the piece that the frame stands in
abbrev pub AddsByte : Located → Located → ℕ → Type 0
AddsByte old new byte = (at : ℕ) (front : List ℕ) → old ≡ frame_at at front → new ≡ frame_at at (front ++ byte ∷ [])

-- none where the piece is CR and LF alone
abbrev pub located_piece : ℕ → List ℕ → List Located
located_piece at piece = (if nat_lt 0 (length (skip_breaks piece)) then frame_at at piece ∷ [] else [])

-- the frames after the first piece of a text that begins at an offset: a piece begins after each record terminator
abbrev pub located_later : ℕ → List ℕ → List Located
located_later at [] = []
located_later at (byte ∷ rest) =
    (if is_terminator byte
    then located_piece (at + 1) (first_piece rest) ++ located_later (at + 1) rest
    else located_later (at + 1) rest)

-- the frames of a text that begins at an offset
abbrev pub located_from : ℕ → List ℕ → List Located
located_from at text = located_piece at (first_piece text) ++ located_later at text

-- the frames of a stream in their order, the first of which has the number 1
abbrev pub located : List ℕ → List Located
located stream = located_from 0 stream

-- the frames of what is ahead from an offset on, where that is told
abbrev pub located_ahead : ℕ → Option (List ℕ) → Option (List Located)
located_ahead at text = option_map (located_from at) text
