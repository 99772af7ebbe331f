-- The reasons to look at a merged edition: plain facts of its records, which stand at places of MARC 21.
use Rattle.std.specs.Prelude.{ℕ, ◌+◌, ◌==◌, ◌||◌, nat_lt, Bool, List, [], ◌∷◌, length, slice_range, map, if◌then◌else◌, codes}
use Rattle.std.specs.List.{flat_map}
use Rattle.std.specs.Cmp.Lexicographic.{pointwise}
use Rattle.std.specs.Prelude.{nat_eq}
use Rattle.union_base.specs.FieldOrder.{field_cmp}
use Rattle.union_base.specs.SortedLists.{set_of}
use Rattle.union_base.specs.declared.field.Field.{Field}
use Rattle.marc_parts.specs.Parts.{has_tag, fields_under, control_text}
use Rattle.match_features.specs.Kept.{texts_cmp}
use Rattle.field_merge.specs.declared.content.Content.{Content}
use Rattle.catalogue_editions.specs.declared.edition.Edition.{Edition}
use Rattle.edition_doubts.specs.Comparing.{share_none, told, differ}

-- ---- titles and ISBNs

-- no title is common to all records (245, in normal form)
abbrev pub shares_no_title : List Edition → Bool
shares_no_title records = share_none texts_cmp (map (λ r. r.features.titles) records)

-- no ISBN is common to all records that have ISBNs (020 $a)
abbrev pub shares_no_isbn : List Edition → Bool
shares_no_isbn records = share_none texts_cmp (told (map (λ r. r.features.isbns) records))

-- ---- languages

-- so many bytes of 008 from a place on; none where it is shorter
abbrev pub code_at : List ℕ → ℕ → ℕ → List ℕ
code_at text from size = if nat_lt (length text) (from + size) then [] else slice_range text from (from + size)

-- blanks, fill characters and `und` tell no language
abbrev pub is_no_language : List ℕ → Bool
is_no_language code = pointwise nat_eq code (codes "   ") || (pointwise nat_eq code (codes "|||") || pointwise nat_eq code (codes "und"))

-- the language of a record (008/35-37), where one is told
abbrev pub language_of : Content → List (List ℕ)
language_of c = let code = code_at c.fixed.text 35 3 in (if is_no_language code then [] else code ∷ [])

-- two records have different languages
abbrev pub languages_differ : List Content → Bool
languages_differ contents = differ texts_cmp (flat_map language_of contents)

-- ---- carriers

-- maps (leader/06 e and f) and visual materials (g, k, o and r) have their form of item at 29 of 008
abbrev pub is_at_29 : ℕ → Bool
is_at_29 kind = (kind == 0x65) || (kind == 0x66) || (kind == 0x67) || (kind == 0x6B) || (kind == 0x6F) || (kind == 0x72)

-- a fill character tells no form
abbrev pub is_no_form : List ℕ → Bool
is_no_form code = pointwise nat_eq code (codes "|")

-- the form of item (008/23; 008/29 of maps and visual materials), where one is told; a blank says that it is none of the others
abbrev pub form_of : Content → List (List ℕ)
form_of c =
    let code = code_at c.fixed.text (if is_at_29 c.fixed.codes.kind then 29 else 23) 1 in
    (if is_no_form code then [] else code ∷ [])

-- two records have different forms of item
abbrev pub forms_differ : List Content → Bool
forms_differ contents = differ texts_cmp (flat_map form_of contents)

-- the first byte of a text
abbrev pub first_byte : List ℕ → List (List ℕ)
first_byte [] = []
first_byte (b ∷ bytes) = (b ∷ []) ∷ []

-- the first byte of a field, where it has that tag
abbrev pub first_byte_under : List ℕ → Field → List (List ℕ)
first_byte_under tag f = if has_tag tag f then first_byte (control_text f.body) else []

-- the first bytes of a record's fields with that tag, in order, each once
abbrev pub materials_of : List ℕ → Content → List (List ℕ)
materials_of tag c = set_of texts_cmp (flat_map (first_byte_under tag) c.united)

-- no first byte of the fields with that tag is common to all records that have such a field
abbrev pub shares_no_material : List ℕ → List Content → Bool
shares_no_material tag contents = share_none texts_cmp (told (map (materials_of tag) contents))

-- two forms of item differ, or no form of material (006/00) or no category of material (007/00) is common
abbrev pub carriers_differ : List Content → Bool
carriers_differ contents =
    forms_differ contents
    || (shares_no_material (codes "006") contents || shares_no_material (codes "007") contents)

-- ---- edition statements

-- the edition statements of a record (250)
abbrev pub statements_of : Content → List Field
statements_of c = fields_under (codes "250") c.united

-- two edition statements differ
abbrev pub statements_differ : List Content → Bool
statements_differ contents = differ field_cmp (flat_map statements_of contents)
