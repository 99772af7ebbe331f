-- What the content of an edition keeps, since each of its parts stands in a record that was accepted and loaded.
use Rattle.std.specs.Prelude.{Bool, true, ◌&&◌, ◌==◌, List, length, Option, codes}
use Rattle.std.specs.Option.{option_map_or}
use Rattle.std.specs.List.{list_all}
use Rattle.std.specs.Str.{is_utf8}
use Rattle.union_base.specs.Fields.{is_text}
use Rattle.union_base.specs.LibraryCodes.{is_library_code}
use Rattle.union_base.specs.declared.field.Field.{Field}
use Rattle.union_base.specs.declared.record_id.RecordId.{RecordId}
use Rattle.marc_leader.specs.Codes.{Codes, are_printable}
use Rattle.marc_fields.specs.Spelling.{is_short}
use Rattle.marc_parts.specs.Parts.{has_tag}
use Rattle.marc_parts.specs.Loads.{is_utf8_field, has_number_shape}
use Rattle.field_merge.specs.Contents.{is_main_entry, is_united}
use Rattle.field_merge.specs.declared.content.Content.{Content}
use Rattle.field_merge.specs.declared.fixed.Fixed.{Fixed}
use Rattle.field_merge.specs.declared.slot.Slot.{Slot}

-- a library's code and a control number
abbrev pub is_id : RecordId → Bool
is_id id = is_library_code id.library && has_number_shape id.control

-- a frame can store the field, and its texts are UTF-8
abbrev pub is_storable : Field → Bool
is_storable f = is_short f && is_utf8_field f

-- codes of a leader: new, in UTF-8, with the usual last byte
abbrev pub are_edition_codes : Codes → Bool
are_edition_codes codes = are_printable codes && ((codes.status == 0x6E) && ((codes.coding == 0x61) && (codes.last == 0x30)))

-- such codes, and the 40 bytes of a field 008
abbrev pub is_fixed_part : Fixed → Bool
is_fixed_part f = are_edition_codes f.codes && ((length f.text == 40) && (is_text f.text && is_utf8 f.text))

-- a field under that tag
abbrev pub is_slot : (Field → Bool) → Slot → Bool
is_slot fits s = fits s.field && is_storable s.field

-- the same where there is one
abbrev pub is_slot_or_none : (Field → Bool) → Option Slot → Bool
is_slot_or_none fits slot = option_map_or (is_slot fits) slot true

-- each slot has a field of its own tag, or none
abbrev pub are_slots : Content → Bool
are_slots c =
    ((is_slot_or_none (has_tag (codes "005")) c.f005 && is_slot_or_none (has_tag (codes "010")) c.f010)
    && (is_slot_or_none (has_tag (codes "040")) c.f040 && is_slot_or_none is_main_entry c.f1xx))
    && (is_slot_or_none (has_tag (codes "240")) c.f240 && is_slot (has_tag (codes "245")) c.f245)

-- fields that a frame can store, none of them under a tag of a slot or one of 001, 003, 008, 991 and 993
abbrev pub are_united : List Field → Bool
are_united fields = list_all is_storable fields && list_all is_united fields

-- the content of an edition
unfoldable pub is_sound : Content → Bool
is_sound c = (list_all is_id c.contributors && is_fixed_part c.fixed) && (are_slots c && are_united c.united)
