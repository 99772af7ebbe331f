-- Control numbers with their source, in this project's own form.
use Rattle.std.specs.Prelude.{ℕ, ◌==◌, ◌&&◌, ◌||◌, Bool, not, nat_le, if◌then◌else◌, Option, Some, None, List, codes, drop, length, bytes_eq, slice_index}
use Rattle.std.specs.List.{list_all, list_any, before_first, after_first}
use Rattle.std.specs.Char.{is_ascii_digit}
use Rattle.isbn_keys.specs.Text.{without_leading, begins_with}
use Rattle.union_base.specs.Blanks.{trimmed}

-- ( or ) stands somewhere
abbrev pub has_parenthesis : List ℕ → Bool
has_parenthesis = list_any (λ b. (b == 0x28) || (b == 0x29))

-- 1 to 64 bytes that don't begin with = and have no ( or )
abbrev pub is_source : List ℕ → Bool
is_source source =
    nat_le 1 (length source)
    && nat_le (length source) 64
    && not (slice_index source 0 == 0x3D)
    && not (has_parenthesis source)

-- the number begins with the prefix, and only digits follow it
abbrev pub is_prefixed : List ℕ → List ℕ → Bool
is_prefixed prefix number = begins_with prefix number && list_all is_ascii_digit (drop (length prefix) number)

-- without a leading ocm, ocn or on that only digits follow
abbrev pub without_prefix : List ℕ → List ℕ
without_prefix number =
    if is_prefixed (codes "ocm") number || is_prefixed (codes "ocn") number then drop 3 number else
    (if is_prefixed (codes "on") number then drop 2 number else number)

-- a number of the source OCoLC loses its prefix and then its leading zeros
abbrev pub number_of : List ℕ → List ℕ → List ℕ
number_of source number =
    if bytes_eq source (codes "OCoLC") then without_leading 0x30 (without_prefix number) else number

-- the key of a source and a number as written, where they have one
abbrev pub pair_key : List ℕ → List ℕ → Option (List ℕ × List ℕ)
pair_key source number =
    let number = number_of (trimmed source) (trimmed number) in
    if is_source (trimmed source) && not (length number == 0) then Some (trimmed source, number) else None

-- a closing parenthesis
abbrev pub closes : ℕ → Bool
closes b = b == 0x29

-- the key of a text (SOURCE)number, where SOURCE ends at the first )
abbrev pub system_key : List ℕ → Option (List ℕ × List ℕ)
system_key text =
    let rest = drop 1 (trimmed text) in
    if begins_with (codes "(") (trimmed text) && list_any closes rest
    then pair_key (before_first closes rest) (after_first closes rest)
    else None
