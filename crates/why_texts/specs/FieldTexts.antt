-- Fields of records as text.
use Rattle.std.specs.Prelude.{ℕ, List, ◌∷◌, ◌++◌, codes}
use Rattle.std.specs.List.{flat_map}
use Rattle.union_base.specs.Bodies.{Subfield, Body, Control, Data}
use Rattle.union_base.specs.OneLine.{shown}
use Rattle.union_base.specs.declared.field.Field.{Field}
use Rattle.union_base.specs.declared.record_id.RecordId.{RecordId}
use Rattle.why_texts.specs.Ids.{id_text}

-- a dollar sign, a subfield's code, and its text
abbrev pub subfield_text : Subfield → List ℕ
subfield_text s = 0x24 ∷ (s.code ∷ shown s.text)

-- a control field's text, or the subfields of a data field
abbrev pub body_text : Body → List ℕ
body_text (Control text) = shown text
body_text (Data ind1 ind2 subfields) = flat_map subfield_text subfields

-- where a text stands, in which record, and the text
abbrev pub place_text : List ℕ → RecordId → List ℕ → List ℕ
place_text place id text = place ++ (codes " of " ++ (id_text id ++ (codes " " ++ shown text)))

-- the tag of a field, its record, and what it has
abbrev pub field_text : RecordId → Field → List ℕ
field_text id f = f.tag ++ (codes " of " ++ (id_text id ++ (codes " " ++ body_text f.body)))
