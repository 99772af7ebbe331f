-- When a line, and the value that it is, stands for a record.
use Rattle.std.specs.Prelude.{◌≡◌, ◌⊎◌, ℕ, ◌+◌, ◌==◌, Bool, ◌&&◌, true, nat_le, List, ◌∷◌, ◌++◌, map, length, codes, Option, Some, None, option_map, option_and_then, if◌then◌else◌, Result, Ok, Err}
use Rattle.std.specs.List.{list_all}
use Rattle.std.specs.Str.{is_utf8}
use Rattle.serde_json.specs.Data.{Data as Json, Items}
use Rattle.serde_json.specs.Find.{get, as_str, as_array}
use Rattle.serde_json.specs.Read.{read}
use Rattle.serde_json.specs.View.{items_of}
use Rattle.marc_leader.specs.Codes.{Codes, is_printable}
use Rattle.marc_leader.specs.Leader.{codes_of}
use Rattle.union_base.specs.Bodies.{Subfield}
use Rattle.union_base.specs.Fields.{is_subfield}
use Rattle.union_base.specs.declared.field.Field.{Field}
use Rattle.marc_parts.specs.declared.marc_record.Record.{Record}
use Rattle.marc_json.specs.Values.{field_value}
use Rattle.marc_json.specs.declared.reading.JsonRefusal.{JsonRefusal}
use Rattle.marc_json.specs.declared.reading.JsonRefusal.TheVariants.{Json as NoJson, Shape, Memory}

-- the value that a line is, where its bytes are UTF-8 and JSON
unfoldable pub value_in : List ℕ → Option Json
value_in line = if is_utf8 line then read line else None

-- 24 characters, each an ASCII graphic or a blank
abbrev pub is_leader : List ℕ → Bool
is_leader text = (length text == 24) && list_all is_printable text

-- the leader of a value: an object's `leader`, where that is one
unfoldable pub leader_in : Json → Option (List ℕ)
leader_in value = option_and_then (λ text. if is_leader text then Some text else None) (option_and_then as_str (get (codes "leader") value))

-- the list of a value: an object's `fields`, where that is a list
unfoldable pub list_in : Json → Option Items
list_in value = option_and_then as_array (get (codes "fields") value)

-- the codes, with `a` as the character coding: JSON is in Unicode
abbrev pub in_unicode : Codes → Codes
in_unicode codes = record codes { coding = 0x61 }

-- the same record, in Unicode
abbrev pub unicode_record : Record → Record
unicode_record r = record { leader = in_unicode r.leader; fields = r.fields }

-- the value stands for the record: its leader has the codes, and its list has the values of the fields, in order
pub record StandsFor (value : Json) (r : Record) : Type 0 where
  pub leader : option_map (λ text. in_unicode (codes_of text)) (leader_in value) ≡ Some r.leader
  pub fields : list_in value ≡ Some (items_of (map field_value r.fields))

-- the place, counted from 1, is that of the first item that is no field's value
pub record IsFirstWrong (items : Items) (at : ℕ) : Type 0 where
  pub before : List Field
  pub wrong : Json
  pub behind : List Json
  pub parts : items ≡ items_of (map field_value before ++ wrong ∷ behind)
  pub no_field : (f : Field) → field_value f ≡ wrong → ⊥
  pub place : at ≡ length before + 1

-- where a value has not the form: 0 where the leader or the list is wrong, else the first wrong field
abbrev pub IsMisfit : Option (List ℕ) → Option Items → ℕ → Type 0
IsMisfit None items at = at ≡ 0
IsMisfit (Some leader) None at = at ≡ 0
IsMisfit (Some leader) (Some items) at = IsFirstWrong items at

-- why a line is read as no record: it is no JSON, or its value has not the form. Lack of memory may come at any time
abbrev pub IsCause : JsonRefusal → Option Json → Type 0
IsCause NoJson value = value ≡ None
IsCause (Shape at) None = ⊥
IsCause (Shape at) (Some value) = IsMisfit (leader_in value) (list_in value) at
IsCause Memory value = Unit {0}

-- the record, unless memory ran out
abbrev pub IsReadAs : Record → Result Record JsonRefusal → Type 0
IsReadAs r answer = (answer ≡ Ok r) ⊎ (answer ≡ Err Memory)

-- ---- for private clauses

-- why a list of fields is refused: one of them is wrong, or memory ran out
abbrev pub IsListCause : JsonRefusal → Items → Type 0
IsListCause NoJson items = ⊥
IsListCause (Shape at) items = IsFirstWrong items at
IsListCause Memory items = Unit {0}

-- subfields, one at least
abbrev pub are_subfields : List Subfield → Bool
are_subfields subfields = nat_le 1 (length subfields) && list_all is_subfield subfields

-- what was found in a value is a thing of that kind whose value it is; where nothing was found it is the value of none
abbrev pub IsFound : {A : Type 0} → (A → Bool) → (A → Json) → Option A → Json → Type 0
IsFound {A} is_one value_of None value = (a : A) → is_one a ≡ true → value_of a ≡ value → ⊥
IsFound is_one value_of (Some a) value = (is_one a ≡ true) × (value_of a ≡ value)
