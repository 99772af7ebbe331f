-- How a text lies in its place.
use Rattle.std.specs.Prelude.{ℕ, ◌≤◌, List, take}
use Rattle.union_base.specs.declared.bytes.Content.{Content}
use Rattle.union_base.specs.declared.bytes.Content.TheVariants.{Short, Long}

-- the longest text that is held in place
abbrev pub longest_short : ℕ
longest_short = 30

-- the bytes: the first ones of the buffer, or those of the block
abbrev pub bytes_of : Content → List ℕ
bytes_of (Short size buffer) = take size buffer
bytes_of (Long text) = text.items

-- the buffer has room for so many bytes
abbrev pub FitsInPlace : Content → Type 0
FitsInPlace (Short size buffer) = size ≤ longest_short
FitsInPlace (Long text) = Unit {0}
