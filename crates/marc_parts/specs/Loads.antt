-- What a record has that a library loads, or withdraws.
use Rattle.std.specs.Prelude.{ℕ, Bool, not, ◌&&◌, ◌||◌, ◌==◌, nat_le, List, length, codes}
use Rattle.std.specs.List.{list_all}
use Rattle.std.specs.Str.{is_utf8}
use Rattle.marc_leader.specs.Codes.{is_printable}
use Rattle.union_base.specs.Bodies.{Subfield, Body, Control, Data}
use Rattle.union_base.specs.declared.field.Field.{Field}
use Rattle.marc_parts.specs.declared.marc_record.Record.{Record}
use Rattle.marc_parts.specs.Parts.{how_many, text_under, control_number}

-- what a blank coding leaves of MARC-8: ASCII without the escape
abbrev pub is_plain : List ℕ → Bool
is_plain text = list_all (λ b. nat_le b 0x7F && not (b == 0x1B)) text

-- the texts are UTF-8
abbrev pub is_utf8_subfield : Subfield → Bool
is_utf8_subfield s = is_utf8 s.text

-- each text of the field's body is UTF-8
abbrev pub is_utf8_body : Body → Bool
is_utf8_body (Control text) = is_utf8 text
is_utf8_body (Data ind1 ind2 subfields) = list_all is_utf8_subfield subfields

-- the same of a field
abbrev pub is_utf8_field : Field → Bool
is_utf8_field f = is_utf8_body f.body

-- 1 to 64 printing ASCII characters
abbrev pub has_number_shape : List ℕ → Bool
has_number_shape number = (nat_le 1 (length number) && nat_le (length number) 64) && list_all is_printable number

-- one field 001, which has a control number between blanks
abbrev pub is_numbered : Record → Bool
is_numbered r = (how_many (codes "001") r.fields == 1) && has_number_shape (control_number r)

-- new, corrected, or raised from a lower level or a prepublication level (MARC 21, leader/05)
abbrev pub is_load_status : ℕ → Bool
is_load_status status = ((status == 0x6E) || (status == 0x63)) || ((status == 0x61) || (status == 0x70))

-- deleted (MARC 21, leader/05)
abbrev pub is_deleted : ℕ → Bool
is_deleted status = status == 0x64

-- one field 008, of 40 bytes, and one field 245. The rules Fixed008 and Title245 of marc_rules (specs/RequiredFields.antt) ask for the
-- same of a frame's directory, and say at which entry it fails
abbrev pub is_described : Record → Bool
is_described r =
    ((how_many (codes "008") r.fields == 1) && (length (text_under (codes "008") r.fields) == 40)) && (how_many (codes "245") r.fields == 1)

-- the record can be loaded
abbrev pub is_loadable : Record → Bool
is_loadable r = (is_load_status r.leader.status && is_numbered r) && (is_described r && list_all is_utf8_field r.fields)

-- the record withdraws the one with its control number
abbrev pub is_withdrawal : Record → Bool
is_withdrawal r = is_deleted r.leader.status && is_numbered r
