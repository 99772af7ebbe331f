-- What a sound content gives of its parts.
use Rattle.std.proofs.Common.{◌≡◌, ℕ, zero, suc, ◌-◌, ◌≤◌, Bool, true, false, ◌&&◌, List, [], ◌∷◌, ◌++◌, length, length-append, length-take, take, refl, ◌∙◌, arith}
use Rattle.std.specs.Str.{is_utf8}
use Rattle.std.specs.Prelude.{◌==◌, nat_le, slice_index, if◌then◌else◌, Option, None, Some, codes}
use Rattle.std.specs.List.{list_all, flat_map}
use Rattle.std.proofs.lemmas.List.Folds.{list_all-append}
use Rattle.std.proofs.lemmas.Bool.Decides.{nat_tests}
use Rattle.union_base.specs.Both.{both_true, true_both}
use Rattle.union_base.specs.Fields.{is_field, is_text, spelled}
use Rattle.union_base.specs.LibraryCodes.{is_library_code, may_stand}
use Rattle.union_base.specs.Bodies.{Body, Control, Data}
use Rattle.union_base.specs.declared.field.Field.{Field}
use Rattle.union_base.specs.declared.record_id.RecordId.{RecordId}
use Rattle.marc_fields.specs.Spelling.{stored, is_short, longest_frame, frame_size, record_of}
use Rattle.marc_fields.specs.Appending.{too_long}
use Rattle.catalogue_export.specs.Fitting.{fitting, frame_rest}
use Rattle.catalogue_export.specs.TagOrder.{in_tag_order}
use Rattle.catalogue_export.proofs.FittingLaws.{fitting_in-bound, fitting_in-all}
use Rattle.catalogue_export.proofs.TagOrderLaws.{in_tag_order-all, in_tag_order-size, in_tag_order-bytes}
use Rattle.marc_leader.specs.Codes.{Codes, is_printable}
use Rattle.marc_parts.specs.Parts.{has_tag}
use Rattle.marc_parts.specs.Loads.{has_number_shape, is_utf8_field}
use Rattle.field_merge.specs.Contents.{is_main_entry, is_united}
use Rattle.field_merge.specs.declared.content.Content.{Content}
use Rattle.field_merge.specs.declared.slot.Slot.{Slot}
use Rattle.workset_keys.specs.WorkKeys.{own_name}
use Rattle.catalogue_core.specs.Sound.{is_id, is_storable, are_united, is_fixed_part, are_edition_codes, is_slot, is_slot_or_none, are_slots, is_sound}
use Rattle.catalogue_export.specs.Exported.{field_of, control_field, blank_field, begins_character, last_boundary, front_within, longest_key, parts, exported, key_field, contributor_field, slot_field, number_field, slot_fields, own_parts}

same_number : (m n : ℕ) → (m == n) ≡ true → m ≡ n
same_number m n h = grind (arith, nat_tests)

module _ (c : Content) (sound : is_sound c ≡ true) where
  ids_and_fixed : (list_all is_id c.contributors ≡ true) × (is_fixed_part c.fixed ≡ true)
  unfolding is_sound
  ids_and_fixed = both_true (list_all is_id c.contributors) (is_fixed_part c.fixed) (both_true (list_all is_id c.contributors && is_fixed_part c.fixed) _ sound).0

  pub sound-ids : list_all is_id c.contributors ≡ true
  sound-ids = ids_and_fixed.0

  codes_and_text : (are_edition_codes c.fixed.codes ≡ true)
      × (((length c.fixed.text == 40) && (is_text c.fixed.text && is_utf8 c.fixed.text)) ≡ true)
  codes_and_text =
      let f = c.fixed in
      both_true (are_edition_codes f.codes) ((length f.text == 40) && (is_text f.text && is_utf8 f.text)) ids_and_fixed.1

  pub sound-codes : are_edition_codes c.fixed.codes ≡ true
  sound-codes = codes_and_text.0

  pub sound-size : (length c.fixed.text == 40) ≡ true
  sound-size = (both_true (length c.fixed.text == 40) (is_text c.fixed.text && is_utf8 c.fixed.text) codes_and_text.1).0

  texts : (is_text c.fixed.text ≡ true) × (is_utf8 c.fixed.text ≡ true)
  texts =
      let sized = both_true (length c.fixed.text == 40) (is_text c.fixed.text && is_utf8 c.fixed.text) codes_and_text.1 in
      both_true (is_text c.fixed.text) (is_utf8 c.fixed.text) sized.1

  pub sound-utf8 : is_utf8 c.fixed.text ≡ true
  sound-utf8 = texts.1

  fixed_text : (length c.fixed.text ≡ 40) × (is_text c.fixed.text ≡ true)
  fixed_text = (same_number (length c.fixed.text) 40 sound-size, texts.0)

  pub sound-fixed : is_text c.fixed.text ≡ true
  sound-fixed = fixed_text.1

  slots_and_united : (are_slots c ≡ true) × (are_united c.united ≡ true)
  unfolding is_sound
  slots_and_united = both_true (are_slots c) (are_united c.united) (both_true (list_all is_id c.contributors && is_fixed_part c.fixed) _ sound).1

  pub sound-united : (list_all is_storable c.united ≡ true) × (list_all is_united c.united ≡ true)
  sound-united = both_true (list_all is_storable c.united) (list_all is_united c.united) slots_and_united.1

  pub sound-slots : (((is_slot_or_none (has_tag (codes "005")) c.f005 ≡ true) × (is_slot_or_none (has_tag (codes "010")) c.f010 ≡ true))
      × ((is_slot_or_none (has_tag (codes "040")) c.f040 ≡ true) × (is_slot_or_none is_main_entry c.f1xx ≡ true)))
      × ((is_slot_or_none (has_tag (codes "240")) c.f240 ≡ true) × (is_slot (has_tag (codes "245")) c.f245 ≡ true))
  sound-slots =
      let both = both_true
      ((is_slot_or_none (has_tag (codes "005")) c.f005 && is_slot_or_none (has_tag (codes "010")) c.f010)
      && (is_slot_or_none (has_tag (codes "040")) c.f040 && is_slot_or_none is_main_entry c.f1xx))
      (is_slot_or_none (has_tag (codes "240")) c.f240 && is_slot (has_tag (codes "245")) c.f245) slots_and_united.0 in
      let first = both_true
      (is_slot_or_none (has_tag (codes "005")) c.f005 && is_slot_or_none (has_tag (codes "010")) c.f010)
      (is_slot_or_none (has_tag (codes "040")) c.f040 && is_slot_or_none is_main_entry c.f1xx) both.0 in (
        (
          both_true (is_slot_or_none (has_tag (codes "005")) c.f005) (is_slot_or_none (has_tag (codes "010")) c.f010) first.0,
          both_true (is_slot_or_none (has_tag (codes "040")) c.f040) (is_slot_or_none is_main_entry c.f1xx) first.1,
        ),
        both_true (is_slot_or_none (has_tag (codes "240")) c.f240) (is_slot (has_tag (codes "245")) c.f245) both.1,
      )

short_append : (xs ys : List Field) → list_all is_short xs ≡ true → list_all is_short ys ≡ true → list_all is_short (xs ++ ys) ≡ true
short_append xs ys one other = list_all-append is_short xs ys ∙ true_both (list_all is_short xs) (list_all is_short ys) one other

yes_le : (m n : ℕ) → m ≤ n → nat_le m n ≡ true
yes_le m n h = grind (arith, nat_tests)

is_le : (m n : ℕ) → nat_le m n ≡ true → m ≤ n
is_le m n h = grind (arith, nat_tests)

field_of-short_by : (tag : List ℕ) (body : Body) → length (spelled body) ≤ 9998 → (b : Bool) (found : is_field tag body ≡ b)
    → list_all is_short (elim b as (λ answer. is_field tag body ≡ answer → List Field) [
      | true ↦ λ fits. record { tag = tag; body = body; well_formed = fits } ∷ []
      | false ↦ λ _. []
    ] found) ≡ true
field_of-short_by tag body few true found =
    let size : length (spelled body ++ 0x1E ∷ []) ≤ 9999 = omega (arith, length-append (spelled body) (0x1E ∷ []), few) in
    let fits : nat_le (length (spelled body ++ 0x1E ∷ [])) 9999 ≡ true = yes_le _ _ size in
    rw fits refl
field_of-short_by tag body few false found = refl

-- a field of few bytes is short
field_of-short : (tag : List ℕ) (body : Body) → length (spelled body) ≤ 9998 → list_all is_short (field_of tag body) ≡ true
unfolding field_of
field_of-short tag body few = field_of-short_by tag body few (is_field tag body) refl

pub code_size : (id : RecordId) → is_id id ≡ true → length id.library ≤ 16
code_size id h =
    let code = (both_true (is_library_code id.library) (has_number_shape id.control) h).0 in
    is_le (length id.library) 16 (both_true (nat_le 1 (length id.library)) (nat_le (length id.library) 16) (both_true (nat_le 1 (length id.library) && nat_le (length id.library) 16) (list_all may_stand id.library) code).0).1

pub number_size : (id : RecordId) → is_id id ≡ true → length id.control ≤ 64
number_size id h =
    let number = (both_true (is_library_code id.library) (has_number_shape id.control) h).1 in
    is_le (length id.control) 64 (both_true (nat_le 1 (length id.control)) (nat_le (length id.control) 64) (both_true (nat_le 1 (length id.control) && nat_le (length id.control) 64) (list_all is_printable id.control) number).0).1

number_field-short : (ids : List RecordId) → list_all is_id ids ≡ true → list_all is_short (number_field ids) ≡ true
number_field-short [] h = refl
number_field-short (id ∷ ids) h =
    let one = (both_true (is_id id) (list_all is_id ids) h).0 in
    field_of-short (codes "001") (Control (own_name id))
    (omega (arith, length-append (id.library ++ 0x2E ∷ []) id.control, length-append id.library (0x2E ∷ []), code_size id one, number_size id one))

contributor_field-short : (id : RecordId) → is_id id ≡ true → list_all is_short (contributor_field id) ≡ true
contributor_field-short id h =
    field_of-short (codes "993") (Data 0x20 0x20 (record { code = 0x61; text = id.library } ∷ record { code = 0x62; text = id.control } ∷ []))
    (omega (arith, length-append id.library (0x1F ∷ 0x62 ∷ (id.control ++ [])), length-append id.control [], code_size id h, number_size id h))

contributor_fields-short : (ids : List RecordId) → list_all is_id ids ≡ true → list_all is_short (flat_map contributor_field ids) ≡ true
contributor_fields-short [] h = refl
contributor_fields-short (id ∷ ids) h =
    let parts = both_true (is_id id) (list_all is_id ids) h in
    short_append (contributor_field id) (flat_map contributor_field ids) (contributor_field-short id parts.0) (contributor_fields-short ids parts.1)

last_boundary-bound : (text : List ℕ) (at : ℕ) → last_boundary text at ≤ at
last_boundary-bound text zero = omega arith
last_boundary-bound text (suc at) =
    elim (begins_character (slice_index text (suc at))) as (λ r. (if r then suc at else last_boundary text at) ≤ suc at) [
      | true ↦ omega arith
      | false ↦ omega (arith, last_boundary-bound text at)
    ]

pub front_within-bound : (most : ℕ) (text : List ℕ) → length (front_within most text) ≤ most
unfolding front_within
front_within-bound most text =
    elim (nat_le (length text) most) as (λ r. nat_le (length text) most ≡ r → length (if r then text else take (last_boundary text most) text) ≤ most) [
      | true ↦ λ e. is_le (length text) most e
      | false ↦ λ e. omega (arith, length-take (last_boundary text most) text, last_boundary-bound text most)
    ] refl

key_field-short_within : (most : ℕ) (key : List ℕ) → most ≤ 9000
    → list_all is_short (blank_field (codes "991") (record { code = 0x61; text = front_within most key } ∷ [])) ≡ true
key_field-short_within most key few =
    field_of-short (codes "991") (Data 0x20 0x20 (record { code = 0x61; text = front_within most key } ∷ []))
    (omega (arith, length-append (front_within most key) [], front_within-bound most key, few))

slot_field-short : (fits : Field → Bool) (slot : Option Slot) → is_slot_or_none fits slot ≡ true → list_all is_short (slot_field slot) ≡ true
slot_field-short fits None h = refl
slot_field-short fits (Some s) h =
    let storable = (both_true (fits s.field) (is_storable s.field) h).1 in
    true_both (is_short s.field) true (both_true (is_short s.field) (is_utf8_field s.field) storable).0 refl

all_storable-short : (fields : List Field) → list_all is_storable fields ≡ true → list_all is_short fields ≡ true
all_storable-short [] h = refl
all_storable-short (f ∷ fields) h =
    let parts = both_true (is_storable f) (list_all is_storable fields) h in
    true_both (is_short f) (list_all is_short fields) (both_true (is_short f) (is_utf8_field f) parts.0).0 (all_storable-short fields parts.1)

-- as many short fields as a frame has room for can be spelled
pub kept-fits : (cs : Codes) (all : List Field) → list_all is_short all ≡ true → too_long (record_of cs (in_tag_order (fitting all))) ≡ None
kept-fits cs all short =
    let each : list_all is_short (in_tag_order (fitting all)) ≡ true
    = in_tag_order-all is_short (fitting all) ∙ fitting_in-all is_short (longest_frame - frame_rest) all short in
    let size : frame_size (record_of cs (in_tag_order (fitting all))) ≤ longest_frame
    = omega (arith, in_tag_order-size (fitting all), in_tag_order-bytes stored (fitting all), fitting_in-bound 99973 all) in
    let few : nat_le (frame_size (record_of cs (in_tag_order (fitting all)))) longest_frame ≡ true = yes_le _ _ size in
    rw (each, few) refl

module _ (c : Content) (sound : is_sound c ≡ true) where
  -- each field of a sound content is short
  united-short : list_all is_short c.united ≡ true
  united-short = all_storable-short c.united (sound-united c sound).0

  slot_fields-short : list_all is_short (slot_fields c) ≡ true
  slot_fields-short =
      let slots = sound-slots c sound in
      short_append (slot_field c.f005) _ (slot_field-short (has_tag (codes "005")) c.f005 slots.0.0.0)
      (short_append (control_field (codes "008") c.fixed.text) _
      (field_of-short (codes "008") (Control c.fixed.text) (omega (arith, (fixed_text c sound).0)))
      (short_append (slot_field c.f010) _ (slot_field-short (has_tag (codes "010")) c.f010 slots.0.0.1)
      (short_append (slot_field c.f040) _ (slot_field-short (has_tag (codes "040")) c.f040 slots.0.1.0)
      (short_append (slot_field c.f1xx) _ (slot_field-short is_main_entry c.f1xx slots.0.1.1)
      (short_append (slot_field c.f240) _ (slot_field-short (has_tag (codes "240")) c.f240 slots.1.0)
      (slot_field-short (has_tag (codes "245")) (Some c.f245) slots.1.1))))))

  own_parts-short : (key : List ℕ) → list_all is_short (own_parts c key) ≡ true
  unfolding own_parts
  own_parts-short key =
      short_append (number_field c.contributors) _ (number_field-short c.contributors (sound-ids c sound))
      (short_append (control_field (codes "003") (codes "UNION")) _ (field_of-short (codes "003") (Control (codes "UNION")) (omega arith))
      (short_append (slot_fields c) _ slot_fields-short
      (short_append (key_field key) _ (key_field-short_within longest_key key (omega arith))
      (contributor_fields-short c.contributors (sound-ids c sound)))))

  pub parts-short : (key : List ℕ) → list_all is_short (parts c key) ≡ true
  parts-short key = short_append (own_parts c key) c.united (own_parts-short key) united-short

  -- the exported record can be spelled
  pub exported-fits : (key : List ℕ) → too_long (exported c key) ≡ None
  exported-fits key = kept-fits c.fixed.codes (parts c key) (parts-short key)
