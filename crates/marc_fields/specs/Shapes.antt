-- Which bytes spell a control field and which a data field (MARC 21, 'Variable fields').
use Rattle.std.specs.Prelude.{◌≡◌, ℕ, Bool, true, false, not, ◌&&◌, ◌||◌, ◌==◌, List, [], ◌∷◌, if◌then◌else◌}
use Rattle.std.specs.List.{list_all}
use Rattle.union_base.specs.Fields.{delimiter, field_terminator, record_terminator, is_indicator, is_subfield_code, is_control_tag, spelled}
use Rattle.union_base.specs.Readings.{is_undelimited}
use Rattle.union_base.specs.declared.field.Field.{Field}

-- the byte ends no field and no record
abbrev pub is_inner : ℕ → Bool
is_inner b = not (b == record_terminator) && not (b == field_terminator)

-- the bytes stand between two terminators
abbrev pub are_inner : List ℕ → Bool
are_inner bytes = list_all is_inner bytes

-- a control field has no delimiter
abbrev pub has_control_shape : List ℕ → Bool
has_control_shape bytes = is_undelimited bytes

-- the bytes begin with a subfield code
abbrev pub begins_with_code : List ℕ → Bool
begins_with_code [] = false
begins_with_code (b ∷ rest) = is_subfield_code b

-- a subfield code follows each delimiter
abbrev pub are_coded : List ℕ → Bool
are_coded [] = true
are_coded (b ∷ rest) = (not (b == delimiter) || begins_with_code rest) && are_coded rest

-- the bytes begin with a delimiter
abbrev pub begins_with_delimiter : List ℕ → Bool
begins_with_delimiter [] = false
begins_with_delimiter (b ∷ rest) = b == delimiter

-- the bytes are subfields, one at least
abbrev pub are_subfields : List ℕ → Bool
are_subfields bytes = begins_with_delimiter bytes && are_coded bytes

-- the bytes begin with two indicators and a delimiter
abbrev pub are_indicated : List ℕ → Bool
are_indicated (ind1 ∷ ind2 ∷ rest) = (is_indicator ind1 && is_indicator ind2) && begins_with_delimiter rest
are_indicated (b ∷ []) = false
are_indicated [] = false

-- a data field has two indicators, and then subfields, one at least
abbrev pub has_data_shape : List ℕ → Bool
has_data_shape (ind1 ∷ ind2 ∷ rest) = (is_indicator ind1 && is_indicator ind2) && are_subfields rest
has_data_shape (b ∷ []) = false
has_data_shape [] = false

-- the bytes have the shape that the tag asks for
abbrev pub has_shape : List ℕ → List ℕ → Bool
has_shape tag bytes = (if is_control_tag tag then has_control_shape bytes else has_data_shape bytes)

-- the field has that tag and these bytes
pub record IsFieldOf (tag bytes : List ℕ) (f : Field) : Type 0 where
  pub shaped : has_shape tag bytes ≡ true
  pub tagged : f.tag ≡ tag
  pub spelled : spelled f.body ≡ bytes

-- no byte ends a record
abbrev pub ends_no_record : List ℕ → Bool
ends_no_record bytes = list_all (λ b. not (b == record_terminator)) bytes
