-- The steps of the normal form on the bytes of an ASCII text.
use Rattle.std.specs.Prelude.{ℕ, ◌==◌, ◌||◌, Bool, if◌then◌else◌}
use Rattle.std.specs.Char.{is_ascii_alphanumeric, to_ascii_lowercase}

-- one of the signs ' [ ]
abbrev pub is_ascii_deleted : ℕ → Bool
is_ascii_deleted b = (b == 0x27) || (b == 0x5B) || (b == 0x5D)

-- a letter, a digit, or one of the signs & + @ #
abbrev pub is_ascii_kept : ℕ → Bool
is_ascii_kept b = is_ascii_alphanumeric b || (b == 0x26) || (b == 0x2B) || (b == 0x40) || (b == 0x23)

-- the mark of a byte that is deleted
abbrev pub deleted_mark : ℕ
deleted_mark = 0x20

-- the mark of a byte that becomes a blank
abbrev pub blank_mark : ℕ
blank_mark = 0x21

-- what a byte becomes where no comma is awaited: its lower case where it is kept, or a mark
abbrev pub read_as : ℕ → ℕ
read_as b =
    if is_ascii_deleted b then deleted_mark else
    (if is_ascii_kept b then to_ascii_lowercase b else blank_mark)
