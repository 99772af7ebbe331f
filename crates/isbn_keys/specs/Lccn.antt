-- Library of Congress control numbers, in this project's own form.
use Rattle.std.specs.Prelude.{ℕ, ◌==◌, ◌-◌, Bool, not, if◌then◌else◌, Option, Some, None, List, ◌++◌, filter, length, replicate}
use Rattle.std.specs.List.{list_any, before_first, after_first}
use Rattle.union_base.specs.Blanks.{blank}

-- what stands before the first /, without blanks
abbrev pub lccn_characters : List ℕ → List ℕ
lccn_characters text = filter (λ c. not (c == blank)) (before_first (λ c. c == 0x2F) text)

-- a hyphen
abbrev pub is_hyphen : ℕ → Bool
is_hyphen c = c == 0x2D

-- a serial number, padded on the left with 0 to six bytes
abbrev pub padded : List ℕ → List ℕ
padded serial = replicate (6 - length serial) 0x30 ++ serial

-- without the first hyphen, and what followed it padded
abbrev pub without_hyphen : List ℕ → List ℕ
without_hyphen cs =
    if list_any is_hyphen cs then before_first is_hyphen cs ++ padded (after_first is_hyphen cs) else cs

-- the key of an LCCN text, where it is not empty
abbrev pub lccn_key : List ℕ → Option (List ℕ)
lccn_key text =
    let cs = without_hyphen (lccn_characters text) in
    if length cs == 0 then None else Some cs
