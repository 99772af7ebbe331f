-- The JSON value of a record, and its line.
use Rattle.std.specs.Prelude.{ℕ, List, [], ◌∷◌, ◌++◌, map, codes}
use Rattle.serde_json.specs.Data.{Data as Json, string, array, object, member, no_members}
use Rattle.serde_json.specs.View.{items_of}
use Rattle.serde_json.specs.Written.{compact_text}
use Rattle.marc_leader.specs.Codes.{Codes}
use Rattle.marc_leader.specs.Leader.{leader_text}
use Rattle.union_base.specs.Bodies.{Subfield, Body, Control, Data}
use Rattle.union_base.specs.declared.field.Field.{Field}
use Rattle.marc_parts.specs.declared.marc_record.Record.{Record}

-- ends a line
abbrev pub line_feed : ℕ
line_feed = 10

-- an object with one key
abbrev pub only_member : List ℕ → Json → Json
only_member key value = object (member key value no_members)

-- a list of values
abbrev pub list_value : List Json → Json
list_value values = array (items_of values)

-- the code is the one key, and the text its value
abbrev pub subfield_value : Subfield → Json
subfield_value s = only_member (s.code ∷ []) (string s.text)

-- an object with two indicators and a list of subfields
abbrev pub data_object : Json → Json → Json → Json
data_object ind1 ind2 subfields =
    object (member (codes "ind1") ind1 (member (codes "ind2") ind2 (member (codes "subfields") subfields no_members)))

-- a control field's text, or a data field's object
abbrev pub body_value : Body → Json
body_value (Control text) = string text
body_value (Data ind1 ind2 subfields) = data_object (string (ind1 ∷ [])) (string (ind2 ∷ [])) (list_value (map subfield_value subfields))

-- the tag is the one key, and the content its value
abbrev pub field_value : Field → Json
field_value f = only_member f.tag (body_value f.body)

-- the leader's 24 characters, with five zeros for the record's length and for the base address of data
abbrev pub leader_characters : Codes → List ℕ
leader_characters codes = leader_text (record { length = 0; base = 0; codes = codes })

-- an object with the list of the fields in order, and the leader
abbrev pub record_value : Record → Json
record_value r =
    object (member (codes "fields") (list_value (map field_value r.fields))
    (member (codes "leader") (string (leader_characters r.leader)) no_members))

-- the compact text of the record's value, its keys in the order of their bytes, and a line feed
unfoldable pub json_line : Record → List ℕ
json_line r = compact_text (record_value r) ++ line_feed ∷ []
