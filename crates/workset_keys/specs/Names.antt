-- The names and titles of a record's fields, by which its work is known.
use Rattle.std.specs.Prelude.{ℕ, ◌==◌, ◌&&◌, ◌-◌, if◌then◌else◌, List, codes, slice_index, All, IsUtf8}
use Rattle.std.specs.Char.{is_ascii_digit}
use Rattle.union_base.specs.Bodies.{Body, Control, Data, subfields_of}
use Rattle.union_base.specs.declared.field.Field.{Field}
use Rattle.naco_normal.specs.Heading.{heading_of, title_of}

-- the first indicator, 0 in a control field
abbrev pub first_indicator : Body → ℕ
first_indicator (Control text) = 0
first_indicator (Data first second subfields) = first

-- the second indicator, 0 in a control field
abbrev pub second_indicator : Body → ℕ
second_indicator (Control text) = 0
second_indicator (Data first second subfields) = second

-- the texts of the field are UTF-8
abbrev pub HasTexts : Field → Type 0
HasTexts f = All (λ s. IsUtf8 s.text) (subfields_of f.body)

-- how many characters an indicator skips: a digit as many as it says, and any other none
abbrev pub skip_of : ℕ → ℕ
skip_of indicator = if is_ascii_digit indicator then indicator - 0x30 else 0

-- the codes of a personal name, in fields 100 and 700, and of any other name
abbrev pub name_codes : List ℕ → List ℕ
name_codes tag = if (slice_index tag 1 == 0x30) && (slice_index tag 2 == 0x30) then codes "abcdq" else codes "abcdn"

-- the name in a field 100, 110, 111, 700, 710 or 711
abbrev pub name_of : Field → List ℕ
name_of f = heading_of (subfields_of f.body) (name_codes f.tag)

-- the title of a 130: $a, $n and $p, without the characters that the first indicator counts
abbrev pub title130_of : Field → List ℕ
title130_of f = title_of (subfields_of f.body) (codes "anp") (skip_of (first_indicator f.body))

-- the title of a 240: $a, $n and $p, without the characters that the second indicator counts
abbrev pub title240_of : Field → List ℕ
title240_of f = title_of (subfields_of f.body) (codes "anp") (skip_of (second_indicator f.body))

-- the title of a 245: $a, $b, $n and $p, without the characters that the second indicator counts
abbrev pub title245_of : Field → List ℕ
title245_of f = title_of (subfields_of f.body) (codes "abnp") (skip_of (second_indicator f.body))
