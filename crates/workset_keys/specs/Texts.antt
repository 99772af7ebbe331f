-- The texts of names, titles and keys.
use Rattle.std.specs.Prelude.{ℕ, Bool, ◌&&◌, List}
use Rattle.std.specs.Str.{is_utf8}
use Rattle.union_base.specs.Fields.{is_text}

-- it is UTF-8, and has none of the bytes that part records, fields and subfields
abbrev pub is_key_text : List ℕ → Bool
is_key_text text = is_text text && is_utf8 text
