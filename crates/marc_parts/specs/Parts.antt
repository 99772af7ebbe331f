-- The parts of a record by their tags.
use Rattle.std.specs.Prelude.{ℕ, List, [], Option, count_by, filter, find, codes, nat_eq, Bool}
use Rattle.std.specs.Option.{option_map_or}
use Rattle.std.specs.Cmp.Lexicographic.{pointwise}
use Rattle.union_base.specs.Bodies.{Body, Control, Data}
use Rattle.union_base.specs.declared.field.Field.{Field}
use Rattle.marc_parts.specs.declared.marc_record.Record.{Record}
use Rattle.union_base.specs.Blanks.{trimmed}

-- the field has that tag
abbrev pub has_tag : List ℕ → Field → Bool
has_tag tag f = pointwise nat_eq f.tag tag

-- the fields with that tag, in their order
abbrev pub fields_under : List ℕ → List Field → List Field
fields_under tag fields = filter (has_tag tag) fields

-- the first field with that tag
abbrev pub first_under : List ℕ → List Field → Option Field
first_under tag fields = find (has_tag tag) fields

-- how many fields have that tag
abbrev pub how_many : List ℕ → List Field → ℕ
how_many tag fields = count_by (has_tag tag) fields

-- the text of a control field; a data field has none
abbrev pub control_text : Body → List ℕ
control_text (Control text) = text
control_text (Data ind1 ind2 subfields) = []

-- the text of the first field with that tag, empty where there is none
abbrev pub text_under : List ℕ → List Field → List ℕ
text_under tag fields = option_map_or (λ f. control_text f.body) (first_under tag fields) []

-- field 001 without the blanks at its ends
abbrev pub control_number : Record → List ℕ
control_number r = trimmed (text_under (codes "001") r.fields)
