-- What is kept of an edition's record: of a work key the longest prefix that ends between two characters, and of the fields the
-- longest that a frame holds.
use Rattle.std.specs.Prelude.{◌≡◌, ℕ, Bool, ◌==◌, ◌||◌, ◌≤◌, IsTrue, List, length, take, slice_index}
use Rattle.union_base.specs.declared.field.Field.{Field}
use Rattle.marc_leader.specs.Codes.{Codes}
use Rattle.marc_fields.specs.Spelling.{frame_size, record_of, longest_frame}
use Rattle.catalogue_export.specs.Exported.{begins_character, front_within}
use Rattle.catalogue_export.specs.Fitting.{fitting}

-- the place is between two characters of the text, at its beginning, or at its end
abbrev pub is_between : List ℕ → ℕ → Bool
is_between text place = (place == 0) || (place == length text) || begins_character (slice_index text place)

-- of the prefixes of the text that have at most `most` bytes and end between two characters, it is the longest
pub record IsLongestFront (most : ℕ) (text front : List ℕ) : Type 0 where
  pub prefix : front ≡ take (length front) text
  pub fits : length front ≤ most
  pub between : IsTrue (is_between text (length front))
  pub longest : (size : ℕ) → size ≤ length text → size ≤ most → IsTrue (is_between text size) → size ≤ length front

-- of the prefixes of the fields whose record has at most as many bytes as a frame may have, it is the longest
pub record IsLongestFitting (codes : Codes) (fields kept : List Field) : Type 0 where
  pub prefix : kept ≡ take (length kept) fields
  pub fits : frame_size (record_of codes kept) ≤ longest_frame
  pub longest : (count : ℕ) → count ≤ length fields → frame_size (record_of codes (take count fields)) ≤ longest_frame → count ≤ length kept

-- the front of a text is the longest
abbrev pub FrontIsLongest : Type 0
FrontIsLongest = (most : ℕ) (text : List ℕ) → IsLongestFront most text (front_within most text)

-- the fields that are kept are the longest prefix that fits, whatever the leader
abbrev pub FittingIsLongest : Type 0
FittingIsLongest = (codes : Codes) (fields : List Field) → IsLongestFitting codes fields (fitting fields)
