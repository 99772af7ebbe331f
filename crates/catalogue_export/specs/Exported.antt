-- The record that the catalogue shows of an edition.
use Rattle.std.specs.Prelude.{ℕ, suc, zero, Bool, true, false, ◌||◌, nat_le, nat_lt, List, [], ◌∷◌, ◌++◌, ◌-◌, length, take, codes, refl, ◌≡◌, Option, None, Some, slice_index, if◌then◌else◌}
use Rattle.std.specs.List.{flat_map}
use Rattle.union_base.specs.Fields.{is_field}
use Rattle.union_base.specs.Bodies.{Subfield, Body, Control, Data}
use Rattle.union_base.specs.declared.field.Field.{Field}
use Rattle.union_base.specs.declared.record_id.RecordId.{RecordId}
use Rattle.marc_parts.specs.declared.marc_record.Record.{Record}
use Rattle.marc_fields.specs.Spelling.{spelling}
use Rattle.field_merge.specs.declared.content.Content.{Content}
use Rattle.field_merge.specs.declared.slot.Slot.{Slot}
use Rattle.workset_keys.specs.WorkKeys.{own_name}
use Rattle.catalogue_export.specs.Fitting.{fitting}
use Rattle.catalogue_export.specs.TagOrder.{in_tag_order}

-- the field with this tag and this body, where they make one
unfoldable pub field_of : List ℕ → Body → List Field
field_of tag body =
    elim (is_field tag body) as (λ fits. is_field tag body ≡ fits → List Field) [
      | true ↦ λ fits. record { tag = tag; body = body; well_formed = fits } ∷ []
      | false ↦ λ _. []
    ] refl

-- one control field
abbrev pub control_field : List ℕ → List ℕ → List Field
control_field tag text = field_of tag (Control text)

-- one subfield
abbrev pub subfield : ℕ → List ℕ → Subfield
subfield code text = record { code = code; text = text }

-- a data field with blank indicators
abbrev pub blank_field : List ℕ → List Subfield → List Field
blank_field tag subfields = field_of tag (Data 0x20 0x20 subfields)

-- the byte begins a character of UTF-8
abbrev pub begins_character : ℕ → Bool
begins_character b = nat_lt b 0x80 || nat_le 0xC0 b

-- the greatest place up to that one at which a character begins
abbrev pub last_boundary : List ℕ → ℕ → ℕ
last_boundary text zero = 0
last_boundary text (suc at) = (if begins_character (slice_index text (suc at)) then suc at else last_boundary text at)

-- the longest prefix of the text of at most `most` bytes that ends between two characters
unfoldable pub front_within : ℕ → List ℕ → List ℕ
front_within most text = (if nat_le (length text) most then text else take (last_boundary text most) text)

-- the longest work key that is shown, in bytes
abbrev pub longest_key : ℕ
longest_key = 9000

-- 991, the work key
abbrev pub key_field : List ℕ → List Field
key_field key = blank_field (codes "991") (subfield 0x61 (front_within longest_key key) ∷ [])

-- 993, a contributor: its library and its control number there
abbrev pub contributor_field : RecordId → List Field
contributor_field id = blank_field (codes "993") (subfield 0x61 id.library ∷ subfield 0x62 id.control ∷ [])

-- the field of a slot, if it has one
abbrev pub slot_field : Option Slot → List Field
slot_field None = []
slot_field (Some s) = s.field ∷ []

-- 001, by the first contributor
abbrev pub number_field : List RecordId → List Field
number_field [] = []
number_field (id ∷ ids) = control_field (codes "001") (own_name id)

-- the slots, with 008 among them, in order of their tags
abbrev pub slot_fields : Content → List Field
slot_fields c =
    slot_field c.f005 ++ (control_field (codes "008") c.fixed.text ++ (slot_field c.f010 ++ (slot_field c.f040
    ++ (slot_field c.f1xx ++ (slot_field c.f240 ++ c.f245.field ∷ [])))))

-- what stands in an exported record before its united fields: the catalogue's own number and name, the slots, the work key,
-- the contributors
unfoldable pub own_parts : Content → List ℕ → List Field
own_parts c key =
    number_field c.contributors ++ (control_field (codes "003") (codes "UNION") ++ (slot_fields c
    ++ (key_field key ++ flat_map contributor_field c.contributors)))

-- the fields of the exported record, in the order in which they are kept where not all of them fit
abbrev pub parts : Content → List ℕ → List Field
parts c key = own_parts c key ++ c.united

-- the exported record
abbrev pub exported : Content → List ℕ → Record
exported c key = record { leader = c.fixed.codes; fields = in_tag_order (fitting (parts c key)) }

-- the bytes of its record under that work key
abbrev pub edition_bytes : Content → List ℕ → List ℕ
edition_bytes c key = spelling (exported c key)

-- how many of an edition's fields do not fit
abbrev pub left_out : Content → List ℕ → ℕ
left_out c key = length (parts c key) - length (fitting (parts c key))
