-- The frames of a stream of records. ISO 2709 ends each record with a record terminator, 0x1D; that CR and LF may stand in
-- front of a record, and what is too long, is this project's own.
use Rattle.std.specs.Prelude.{◌≡◌, ℕ, ◌≤◌, Bool, false, ◌==◌, ◌||◌, nat_lt, if◌then◌else◌, List, [], ◌∷◌, ◌++◌, length}
use Rattle.std.specs.List.{list_any, flat_map}
use Rattle.iso2709_frame.specs.declared.cut.Cut.{Cut}
use Rattle.iso2709_frame.specs.declared.cut.Cut.TheVariants.{Whole, TooLong, Truncated}

-- the byte is 0x1D, the record terminator, which ends a record
abbrev pub is_terminator : ℕ → Bool
is_terminator byte = byte == 0x1D

-- the byte is CR or LF, which may stand before a record and is skipped there
abbrev pub is_break : ℕ → Bool
is_break byte = byte == 0x0D || byte == 0x0A

-- the text up to and with its first record terminator; all of it where there is none
abbrev pub first_piece : List ℕ → List ℕ
first_piece [] = []
first_piece (byte ∷ rest) = byte ∷ (if is_terminator byte then [] else first_piece rest)

-- the pieces after the first: after each record terminator one begins, the last of which no terminator ends
abbrev pub later_pieces : List ℕ → List (List ℕ)
later_pieces [] = []
later_pieces (byte ∷ rest) =
    (if is_terminator byte then first_piece rest ∷ later_pieces rest else later_pieces rest)

-- the text without the CR and LF at its beginning
abbrev pub skip_breaks : List ℕ → List ℕ
skip_breaks [] = []
skip_breaks (byte ∷ rest) = (if is_break byte then skip_breaks rest else byte ∷ rest)

-- how a text that begins with no CR or LF is cut: nothing where it is empty; with its bytes where it is whole. A leader
-- gives a frame's length in five digits, so the largest frame has 99,999 bytes (ISO 2709, 'Record length')
abbrev pub cut_of : List ℕ → List (Cut × List ℕ)
cut_of [] = []
cut_of (byte ∷ rest) =
    let frame = byte ∷ rest in
    (if list_any is_terminator frame
    then (if nat_lt 99999 (length frame) then (TooLong, []) else (Whole, frame))
    else (Truncated, [])) ∷ []

-- how a piece of a stream is cut
abbrev pub cut_piece : List ℕ → List (Cut × List ℕ)
cut_piece piece = cut_of (skip_breaks piece)

-- the cuts of a stream in their order: its frames, which are numbered from 1
abbrev pub frames : List ℕ → List (Cut × List ℕ)
frames stream = flat_map cut_piece (first_piece stream ∷ later_pieces stream)

-- the text is a whole frame: no longer than a frame may be, and its only record terminator is its last byte
pub record IsWhole (frame : List ℕ) : Type 0 where
  pub size : length frame ≤ 99999
  pub front : List ℕ
  pub open_front : list_any is_terminator front ≡ false
  pub ended : frame ≡ front ++ 0x1D ∷ []
