-- The heading and the title that subfields make: the forms of their texts, joined.
use Rattle.std.specs.Prelude.{ℕ, ◌==◌, nat_le, if◌then◌else◌, List, [], ◌∷◌, map, filter, length, drop, chars, encode_utf8_all}
use Rattle.std.specs.List.{list_any}
use Rattle.union_base.specs.Bodies.{Subfield}
use Rattle.naco_normal.specs.declared.form.Comma.TheVariants.{First, None}
use Rattle.naco_normal.specs.Normal.{normal_form}
use Rattle.naco_normal.specs.Words.{joined_words}

-- the subfields whose code is among the codes
abbrev pub chosen : List ℕ → List Subfield → List Subfield
chosen wanted = filter (λ s. list_any (λ code. code == s.code) wanted)

-- the code `a`, of a name's or title's first part
abbrev pub main_code : ℕ
main_code = 0x61

-- the forms of the subfields: of the first $a by `first`, of every other by `other`
abbrev pub part_forms : (List ℕ → List ℕ) → (List ℕ → List ℕ) → List Subfield → List (List ℕ)
part_forms first other [] = []
part_forms first other (s ∷ ss) =
    if s.code == main_code
    then first s.text ∷ map (λ rest. other rest.text) ss
    else other s.text ∷ part_forms first other ss

-- the form of a text in UTF-8
abbrev pub form_with_comma : List ℕ → List ℕ
form_with_comma text = encode_utf8_all (normal_form First (chars text))

-- the normal form of a text that keeps no comma
abbrev pub form_without_comma : List ℕ → List ℕ
form_without_comma text = encode_utf8_all (normal_form None (chars text))

-- a name: the first comma of its first $a is kept
abbrev pub heading_of : List Subfield → List ℕ → List ℕ
heading_of subfields wanted = joined_words (part_forms form_with_comma form_without_comma (chosen wanted subfields))

-- the text without its first characters, where it has that many
abbrev pub skipped : ℕ → List ℕ → List ℕ
skipped skip cs = if nat_le skip (length cs) then drop skip cs else cs

-- the same, without the first characters, as many as an indicator counts
abbrev pub form_skipping : ℕ → List ℕ → List ℕ
form_skipping skip text = encode_utf8_all (normal_form None (skipped skip (chars text)))

-- a title: no comma is kept, and the first $a is read after the characters to skip
abbrev pub title_of : List Subfield → List ℕ → ℕ → List ℕ
title_of subfields wanted skip = joined_words (part_forms (form_skipping skip) form_without_comma (chosen wanted subfields))
