-- The field of a record that gives it a value by which records match, as record_features has it.
use Rattle.std.specs.Prelude.{ℕ, ◌&&◌, ◌||◌, ◌++◌, Bool, List, Option, find, codes}
use Rattle.std.specs.List.{list_any}
use Rattle.std.specs.Option.{option_map, option_to_list}
use Rattle.union_base.specs.Bodies.{Subfield, subfields_of}
use Rattle.union_base.specs.SortedLists.{has}
use Rattle.union_base.specs.declared.field.Field.{Field}
use Rattle.marc_parts.specs.Parts.{has_tag}
use Rattle.match_features.specs.Kept.{texts_cmp, pairs_cmp}
use Rattle.record_features.specs.Gathering.{isbn_in, issn_in, lccn_in, system_number_in}
use Rattle.field_merge.specs.declared.content.Content.{Content}

-- a subfield of a field 020 gives the ISBN
abbrev pub gives_isbn : List ℕ → Field → Bool
gives_isbn isbn f = has_tag (codes "020") f && list_any (λ s. has texts_cmp (isbn_in s) isbn) (subfields_of f.body)

-- a subfield of a field 022 gives the ISSN
abbrev pub gives_issn : List ℕ → Field → Bool
gives_issn issn f = has_tag (codes "022") f && list_any (λ s. has texts_cmp (issn_in s) issn) (subfields_of f.body)

-- a subfield of a field 010 gives the number of the Library of Congress
abbrev pub gives_lccn : List ℕ × List ℕ → Field → Bool
gives_lccn pair f = has_tag (codes "010") f && list_any (λ s. has pairs_cmp (lccn_in s) pair) (subfields_of f.body)

-- a subfield of a field 035 gives the system number
abbrev pub gives_system_number : List ℕ × List ℕ → Field → Bool
gives_system_number pair f = has_tag (codes "035") f && list_any (λ s. has pairs_cmp (system_number_in s) pair) (subfields_of f.body)

-- the number stands in the field
abbrev pub gives_number : List ℕ × List ℕ → Field → Bool
gives_number pair f = gives_lccn pair f || gives_system_number pair f

-- the fields of a record in which there are numbers with a source: its 010, and those of which an edition shows all
abbrev pub number_fields : Content → List Field
number_fields c = option_to_list (option_map (λ s. s.field) c.f010) ++ c.united

-- the field of a record that gives a control number with its source; a record whose 001, with its 003 or its library's code,
-- gives it has none
abbrev pub number_field : List ℕ × List ℕ → Content → Option Field
number_field pair c = find (gives_number pair) (number_fields c)

-- the field of a record that gives an ISBN
abbrev pub isbn_field : List ℕ → Content → Option Field
isbn_field isbn c = find (gives_isbn isbn) c.united

-- the field of a record that gives an ISSN
abbrev pub issn_field : List ℕ → Content → Option Field
issn_field issn c = find (gives_issn issn) c.united

-- the field of a record that gives its name
abbrev pub name_field : Content → Option Field
name_field c = option_map (λ s. s.field) c.f1xx
