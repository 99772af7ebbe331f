-- What a MARC field is made of, and how it is spelled in a record.
use Rattle.std.specs.Prelude.{ℕ, Bool, not, ◌&&◌, ◌==◌, nat_le, List, ◌∷◌, length, slice_index}
use Rattle.std.specs.List.{list_all, flat_map}
use Rattle.std.specs.Char.{is_ascii_alphanumeric}
use Rattle.union_base.specs.Bodies.{Subfield, Body, Control, Data}

-- ends a record, ends a field, and begins a subfield (ISO 2709)
abbrev pub record_terminator : ℕ
record_terminator = 0x1D

-- the field terminator (ISO 2709)
abbrev pub field_terminator : ℕ
field_terminator = 0x1E

-- the subfield delimiter (ISO 2709)
abbrev pub delimiter : ℕ
delimiter = 0x1F

-- an ASCII letter or digit
abbrev pub is_tag_byte : ℕ → Bool
is_tag_byte b = is_ascii_alphanumeric b

-- a tag: three ASCII letters or digits
abbrev pub is_tag : List ℕ → Bool
is_tag tag = (length tag == 3) && list_all is_tag_byte tag

-- the tag of a control field: it begins with `00`
abbrev pub is_control_tag : List ℕ → Bool
is_control_tag tag = (slice_index tag 0 == 0x30) && (slice_index tag 1 == 0x30)

-- a byte of a text: none of the three that part records, fields and subfields
abbrev pub is_text_byte : ℕ → Bool
is_text_byte b = not (nat_le record_terminator b && nat_le b delimiter)

-- a text of a field has none of the three delimiters of ISO 2709
abbrev pub is_text : List ℕ → Bool
is_text text = list_all is_text_byte text

-- an indicator is a printable ASCII character or a blank
abbrev pub is_indicator : ℕ → Bool
is_indicator b = nat_le 0x20 b && nat_le b 0x7E

-- a subfield's code is a printable ASCII character that is no blank
abbrev pub is_subfield_code : ℕ → Bool
is_subfield_code b = nat_le 0x21 b && nat_le b 0x7E

-- a subfield has a code and a text
abbrev pub is_subfield : Subfield → Bool
is_subfield s = is_subfield_code s.code && is_text s.text

-- a control field is a text under a control tag; a data field has two indicators and one subfield at least under another tag
abbrev pub fits_tag : List ℕ → Body → Bool
fits_tag tag (Control text) = is_control_tag tag && is_text text
fits_tag tag (Data ind1 ind2 subfields) =
    not (is_control_tag tag) && ((is_indicator ind1 && is_indicator ind2) && (nat_le 1 (length subfields) && list_all is_subfield subfields))

-- a field has a tag, and a body that fits it
abbrev pub is_field : List ℕ → Body → Bool
is_field tag body = is_tag tag && fits_tag tag body

-- a subfield as it stands in a record: the delimiter, the code, the text
abbrev pub spelled_subfield : Subfield → List ℕ
spelled_subfield s = delimiter ∷ s.code ∷ s.text

-- a field's bytes as they stand in a record, without the terminator
abbrev pub spelled : Body → List ℕ
spelled (Control text) = text
spelled (Data ind1 ind2 subfields) = ind1 ∷ ind2 ∷ flat_map spelled_subfield subfields
