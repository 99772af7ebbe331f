-- The record that is shown of an edition breaks no rule, or that on 001.
use Rattle.std.proofs.Common.{◌≡◌, ℕ, zero, suc, ◌+◌, ◌<◌, ◌≤◌, Bool, true, false, not, ◌&&◌, ◌||◌, List, [], ◌∷◌, ◌++◌, length, length-append, take, refl, sym, ◌∙◌, ap, subst, arith, inl, inr, None, Some}
use Rattle.std.specs.Prelude.{◌==◌, codes, nat_lt, nat_le, slice_index, if◌then◌else◌}
use Rattle.std.specs.List.{list_all}
use Rattle.std.specs.Str.{IsUtf8, IsAscii, is_utf8}
use Rattle.std.proofs.lemmas.Bool.{and_parts, and_from, not_from_false, or_left, or_cases, cases_eq, ne_eqb, eqb-true}
use Rattle.std.proofs.lemmas.Bool.Decides.{nat_tests}
use Rattle.std.proofs.lemmas.Slice.Eq.{bytes_eq-Decides}
use Rattle.std.proofs.lemmas.Str.{IsUtf8-from_is_utf8, is_utf8-from_IsUtf8, IsUtf8-nil, IsUtf8-append, IsUtf8-from_ascii, IsUtf8-take}
use Rattle.union_base.specs.LibraryCodes.{is_library_code, may_stand}
use Rattle.union_base.specs.Bodies.{Control, Data}
use Rattle.union_base.specs.declared.field.Field.{Field}
use Rattle.union_base.specs.declared.record_id.RecordId.{RecordId}
use Rattle.iso2709_frame.specs.Frames.{IsWhole}
use Rattle.marc_rules.proofs.CheckLaws.{frame-IsWhole}
use Rattle.iso2709_frame.specs.declared.cut.Cut.TheVariants.{Whole}
use Rattle.marc_leader.specs.Codes.{is_printable, are_printable}
use Rattle.marc_fields.specs.Spelling.{stored, is_short, Spells, AreEntriesOf}
use Rattle.marc_fields.specs.declared.rules.Rule.TheVariants.{ControlNumber}
use Rattle.marc_fields.proofs.RecordLaws.{spelling-IsSpelled}
use Rattle.marc_parts.specs.Parts.{has_tag, how_many}
use Rattle.marc_parts.specs.Loads.{has_number_shape, is_utf8_field}
use Rattle.union_base.specs.Blanks.{trim_end}
use Rattle.marc_rules.specs.Accepted.{IsAccepted}
use Rattle.marc_rules.specs.NineteenRules.{first_rule}
use Rattle.marc_rules.specs.RequiredFields.{is_same, places, is_control_number, tag_001, tag_008, tag_245, number_failure}
use Rattle.catalogue_export.proofs.ClassNumbers.{class_number}
use Rattle.field_merge.specs.Contents.{is_main_entry, is_united}
use Rattle.field_merge.specs.declared.content.Content.{Content}
use Rattle.workset_keys.specs.WorkKeys.{own_name}
use Rattle.catalogue_core.specs.Sound.{is_id, is_storable, is_sound}
use Rattle.catalogue_export.specs.Fitting.{taken_by, fitting}
use Rattle.catalogue_export.specs.TagOrder.{put_by_tag, in_tag_order}
use Rattle.catalogue_export.specs.Exported.{begins_character, last_boundary, front_within, longest_key, control_field, number_field, slot_fields, key_field, parts, exported, edition_bytes}
use Rattle.catalogue_export.specs.ExportedLaws.{ExportedIsWhole, ExportedBreaksNoRule, ExportedIsAccepted, ExportedIsNumberedTooLong}
use Rattle.catalogue_export.proofs.CountLaws.{one_if, weighed, counted, counted-append, counted-none, counted-put, counted-in_tag_order}
use Rattle.catalogue_export.proofs.EntryLaws.{is_under, passes_under, AreCounted, number-none, number-refused}
use Rattle.catalogue_export.proofs.PlaceLaws.{lead, place-put, lead-zeros}
use Rattle.catalogue_export.proofs.ExportedParts.{made-all, made-most, slot-most, made-weighs, front_parts, AreAtMost, front-most, front-number, front-fixed, front-title, shown_others, fitting-split, other_tag, united-class, shown_others-all, exported-all}
use Rattle.catalogue_export.proofs.FieldLaws.{is_text-own_name, field_of-is}
use Rattle.catalogue_export.proofs.FittingLaws.{is_le}
use Rattle.catalogue_export.proofs.SoundLaws.{code_size, number_size, front_within-bound, sound-ids, sound-codes, sound-size, sound-utf8, sound-fixed, sound-slots, exported-fits}
use Rattle.catalogue_export.proofs.NumberShapeLaws.{name-shaped, name-misshaped}
use Rattle.catalogue_export.proofs.WholeLaws.{spelling-ends}
use Rattle.catalogue_export.proofs.SpelledLaws.{whole-remaining, remaining-numbers}

-- bytes of ASCII
all_low : (t : List ℕ) → list_all (λ b. nat_lt b 128) t ≡ true → IsAscii t
all_low [] all i = below
  where
    below : 0 < 128
    below = omega arith
all_low (b ∷ t) all zero = low b (and_parts (nat_lt b 128) (list_all (λ x. nat_lt x 128) t) all).0
  where
    low : (n : ℕ) → nat_lt n 128 ≡ true → n < 128
    low n h = grind (arith, nat_tests)
all_low (b ∷ t) all (suc i) = all_low t (and_parts (nat_lt b 128) (list_all (λ x. nat_lt x 128) t) all).1 i

all_weaker : (p r : ℕ → Bool) → ((b : ℕ) → p b ≡ true → r b ≡ true) → (t : List ℕ) → list_all p t ≡ true → list_all r t ≡ true
all_weaker p r each [] all = refl
all_weaker p r each (b ∷ t) all =
    let both = and_parts (p b) (list_all p t) all in
    and_from (r b) (list_all r t) (each b both.0) (all_weaker p r each t both.1)

code_low : (b : ℕ) → may_stand b ≡ true → nat_lt b 128 ≡ true
code_low b is = grind (arith, nat_tests)

printing_low : (b : ℕ) → is_printable b ≡ true → nat_lt b 128 ≡ true
printing_low b is = grind (arith, nat_tests)

pub low_utf8 : (t : List ℕ) → list_all (λ b. nat_lt b 128) t ≡ true → IsUtf8 t
low_utf8 t all = IsUtf8-from_ascii t (all_low t all)

pub library-utf8 : (id : RecordId) → is_id id ≡ true → IsUtf8 id.library
library-utf8 id is =
    let code = (and_parts (is_library_code id.library) (has_number_shape id.control) is).0 in
    low_utf8 id.library (all_weaker may_stand (λ b. nat_lt b 128) code_low id.library (and_parts _ (list_all may_stand id.library) code).1)

control-utf8 : (id : RecordId) → is_id id ≡ true → IsUtf8 id.control
control-utf8 id is =
    let number = (and_parts (is_library_code id.library) (has_number_shape id.control) is).1 in
    low_utf8 id.control (all_weaker is_printable (λ b. nat_lt b 128) printing_low id.control (and_parts _ (list_all is_printable id.control) number).1)

pub own_name-utf8 : (id : RecordId) → is_id id ≡ true → is_utf8 (own_name id) ≡ true
own_name-utf8 id is =
    is_utf8-from_IsUtf8 (own_name id)
    (IsUtf8-append (id.library ++ codes ".") id.control (IsUtf8-append id.library (codes ".") (library-utf8 id is) (low_utf8 (codes ".") refl)) (control-utf8 id is))

-- a prefix of a text in UTF-8
high_start : (b : ℕ) → begins_character b ≡ true → 128 ≤ b → 192 ≤ b
high_start b begins high = grind (arith, nat_tests)

boundary-utf8 : (text : List ℕ) (at : ℕ) → IsUtf8 text → at ≤ length text → IsUtf8 (take (last_boundary text at) text)
boundary-utf8 text zero u within = IsUtf8-nil
boundary-utf8 text (suc at) u within =
    let less : at ≤ length text = omega arith in
    elim (begins_character (slice_index text (suc at))) as (λ r. begins_character (slice_index text (suc at)) ≡ r
    → IsUtf8 (take (if r then suc at else last_boundary text at) text)) [
      | true ↦ λ e. IsUtf8-take text (suc at) u (within, λ low high. high_start (slice_index text (suc at)) e high)
      | false ↦ λ e. boundary-utf8 text at u less
    ] refl

over : (m n : ℕ) → nat_le m n ≡ false → n ≤ m
over m n h = grind (arith, nat_tests)

front-utf8 : (most : ℕ) (text : List ℕ) → is_utf8 text ≡ true → is_utf8 (front_within most text) ≡ true
unfolding front_within
front-utf8 most text unicode =
    elim (nat_le (length text) most) as (λ r. nat_le (length text) most ≡ r → is_utf8 (if r then text else take (last_boundary text most) text) ≡ true) [
      | true ↦ λ e. unicode
      | false ↦ λ e. is_utf8-from_IsUtf8 _ (boundary-utf8 text most (IsUtf8-from_is_utf8 text unicode) (over (length text) most e))
    ] refl

-- what fields take
taken-text : (text : List ℕ) (n : ℕ) → length text ≤ n → 12 + length (text ++ 0x1E ∷ []) ≤ 13 + n
taken-text text n few = omega (arith, length-append text (0x1E ∷ []))

taken-storable : (f : Field) → is_storable f ≡ true → taken_by f ≤ 10011
taken-storable f storable =
    let short : length (stored f) ≤ 9999 = is_le (length (stored f)) 9999 (and_parts (is_short f) (is_utf8_field f) storable).0 in
    omega (arith, short)

no_more : (n : ℕ) → n ≤ n
no_more n = omega arith

-- a tag that a test counts
tagged : (p : List ℕ → Bool) (tag : List ℕ) (f : Field) → has_tag tag f ≡ true → one_if (p f.tag) ≤ one_if (p tag)
tagged p tag f is =
    let same : f.tag ≡ tag = (bytes_eq-Decides f.tag tag).0 is in
    subst (λ t. one_if (p t) ≤ one_if (p tag)) (sym same) (no_more (one_if (p tag)))

-- a main entry that a test counts
entry-tagged : (p : List ℕ → Bool) (m : ℕ) → one_if (p (codes "100")) ≤ m → one_if (p (codes "110")) ≤ m → one_if (p (codes "111")) ≤ m → one_if (p (codes "130")) ≤ m
    → (f : Field) → is_main_entry f ≡ true → one_if (p f.tag) ≤ m
entry-tagged p m a b c d f is =
    elim (or_cases (has_tag (codes "100") f || has_tag (codes "110") f) (has_tag (codes "111") f || has_tag (codes "130") f) is) [
      | inl low ↦ elim (or_cases (has_tag (codes "100") f) (has_tag (codes "110") f) low) [
        | inl h ↦ omega (arith, tagged p (codes "100") f h, a)
        | inr h ↦ omega (arith, tagged p (codes "110") f h, b)
      ]
      | inr high ↦ elim (or_cases (has_tag (codes "111") f) (has_tag (codes "130") f) high) [
        | inl h ↦ omega (arith, tagged p (codes "111") f h, c)
        | inr h ↦ omega (arith, tagged p (codes "130") f h, d)
      ]
    ]

-- a number is one of the classes at most
class_sum : ℕ → ℕ
class_sum k =
    one_if (0 == k) + (one_if (1 == k) + ((one_if (2 == k) + (one_if (0 == k) + (one_if (3 == k) + (one_if (4 == k) + (one_if (6 == k) + (one_if (5 == k) + one_if (0 == k)))))))
    + one_if (0 == k)))

only_one : (k : ℕ) → (k ≡ 0 → ⊥) → class_sum k ≤ 1
unfolding class_sum
only_one k some =
    let Few : ℕ → Type 0 = λ n. class_sum n ≤ 1 in
    elim (cases_eq 1 k) [
      | inl e ↦ subst Few e (omega arith)
      | inr n1 ↦ elim (cases_eq 2 k) [
        | inl e ↦ subst Few e (omega arith)
        | inr n2 ↦ elim (cases_eq 3 k) [
          | inl e ↦ subst Few e (omega arith)
          | inr n3 ↦ elim (cases_eq 4 k) [
            | inl e ↦ subst Few e (omega arith)
            | inr n4 ↦ elim (cases_eq 5 k) [
              | inl e ↦ subst Few e (omega arith)
              | inr n5 ↦ elim (cases_eq 6 k) [
                | inl e ↦ subst Few e (omega arith)
                | inr n6 ↦ rw (ne_eqb 0 k (λ e. some (sym e)), ne_eqb 1 k n1, ne_eqb 2 k n2, ne_eqb 3 k n3, ne_eqb 4 k n4, ne_eqb 5 k n5, ne_eqb 6 k n6) (omega arith)
              ]
            ]
          ]
        ]
      ]
    ]

-- the tests of slots and of united fields, by the tag
abbrev pub slot_tag : List ℕ → Bool
slot_tag t =
    (is_same t (codes "005") || (is_same t (codes "010") || is_same t (codes "040")))
    || (((is_same t (codes "100") || is_same t (codes "110")) || (is_same t (codes "111") || is_same t (codes "130")))
    || (is_same t (codes "240") || is_same t (codes "245")))

abbrev pub united_tag : List ℕ → Bool
united_tag t =
    not (slot_tag t
    || ((is_same t (codes "001") || is_same t (codes "003")) || (is_same t (codes "008") || (is_same t (codes "991") || is_same t (codes "993")))))

module _ (c : Content) (key : List ℕ) (sound : is_sound c ≡ true) where
  codes-are : ((c.fixed.codes.status ≡ 0x6E) × (c.fixed.codes.coding ≡ 0x61)) × (are_printable c.fixed.codes ≡ true)
  codes-are =
      let k = c.fixed.codes in
      let both = and_parts (are_printable k) ((k.status == 0x6E) && ((k.coding == 0x61) && (k.last == 0x30))) (sound-codes c sound) in
      let new = and_parts (k.status == 0x6E) ((k.coding == 0x61) && (k.last == 0x30)) both.1 in
      ((eqb-true k.status 0x6E new.0, eqb-true k.coding 0x61 (and_parts (k.coding == 0x61) (k.last == 0x30) new.1).0), both.0)

  -- the bytes spell the record
  exported-Spells : Spells (edition_bytes c key) (exported c key)
  exported-Spells = spelling-IsSpelled (exported c key) codes-are.1 (exported-fits c sound key)

  -- and are a whole frame
  exported_whole : IsWhole (edition_bytes c key)
  exported_whole = frame-IsWhole (edition_bytes c key) (record { size = exported-Spells.short; ends = spelling-ends (exported c key) codes-are.1 })

module _ (c : Content) (id : RecordId) (ids : List RecordId) (key : List ℕ) (sound : is_sound c ≡ true) (first : c.contributors ≡ id ∷ ids) (unicode : is_utf8 key ≡ true) where
  id_is : is_id id ≡ true
  id_is = (and_parts (is_id id) (list_all is_id ids) (subst (λ all. list_all is_id all ≡ true) first (sound-ids c sound))).0

  -- the parts that always stand in the record have room
  front-room : weighed taken_by (front_parts c key) ≤ 99973
  front-room =
      let slots = sound-slots c sound in
      let each : (fits : Field → Bool) (f : Field) → fits f ≡ true → is_storable f ≡ true → taken_by f ≤ 10011 = λ fits f is storable. taken-storable f storable in
      let size : length (own_name id) ≤ 81
      = omega (arith, length-append (id.library ++ codes ".") id.control, length-append id.library (codes "."), code_size id id_is, number_size id id_is) in
      let key_size : length (0x20 ∷ 0x20 ∷ ((0x1F ∷ 0x61 ∷ front_within longest_key key) ++ [])) ≤ 9004
      = omega (arith, length-append (front_within longest_key key) [], front_within-bound longest_key key) in
      let most : AreAtMost taken_by c key 94 18 10011 53 10011 10011 10011 10011 10011 9017 = record {
        number = subst (λ all. weighed taken_by (number_field all) ≤ 94) (sym first)
            (made-most taken_by 94 (codes "001") (Control (own_name id)) (λ fits. taken-text (own_name id) 81 size));
        name = made-most taken_by 18 (codes "003") (Control (codes "UNION")) (λ fits. omega arith);
        f005 = slot-most taken_by 10011 (has_tag (codes "005")) (each (has_tag (codes "005"))) c.f005 slots.0.0.0;
        fixed = made-most taken_by 53 (codes "008") (Control c.fixed.text) (λ fits. taken-text c.fixed.text 40 (fixed_few (length c.fixed.text) (sound-size c sound)));
        f010 = slot-most taken_by 10011 (has_tag (codes "010")) (each (has_tag (codes "010"))) c.f010 slots.0.0.1;
        f040 = slot-most taken_by 10011 (has_tag (codes "040")) (each (has_tag (codes "040"))) c.f040 slots.0.1.0;
        f1xx = slot-most taken_by 10011 is_main_entry (each is_main_entry) c.f1xx slots.0.1.1;
        f240 = slot-most taken_by 10011 (has_tag (codes "240")) (each (has_tag (codes "240"))) c.f240 slots.1.0;
        f245 = slot-most taken_by 10011 (has_tag (codes "245")) (each (has_tag (codes "245"))) (Some c.f245) slots.1.1;
        key_part = made-most taken_by 9017 (codes "991") (Data 0x20 0x20 (record { code = 0x61; text = front_within longest_key key } ∷ []))
            (λ fits. taken-text (0x20 ∷ 0x20 ∷ ((0x1F ∷ 0x61 ∷ front_within longest_key key) ++ [])) 9004 key_size);
      } in
      omega (arith, front-most taken_by c key 94 18 10011 53 10011 10011 10011 10011 10011 9017 most)
    where
      fixed_few : (n : ℕ) → (n == 40) ≡ true → n ≤ 40
      fixed_few n h = grind (arith, nat_tests)

  -- how many fields of the record have a tag that a test counts
  module _ (p : List ℕ → Bool) where
    front-count : (m : ℕ) → one_if (p (codes "100")) ≤ m → one_if (p (codes "110")) ≤ m → one_if (p (codes "111")) ≤ m → one_if (p (codes "130")) ≤ m
        → counted (λ (f : Field). p f.tag) (front_parts c key)
        ≤ one_if (p (codes "001")) + (one_if (p (codes "003")) + ((one_if (p (codes "005")) + (one_if (p (codes "008")) + (one_if (p (codes "010")) + (one_if (p (codes "040"))
        + (m + (one_if (p (codes "240")) + one_if (p (codes "245")))))))) + one_if (p (codes "991"))))
    front-count m a b d e =
        let slots = sound-slots c sound in
        let w : Field → ℕ = λ f. one_if (p f.tag) in
        let under : (tag : List ℕ) (f : Field) → has_tag tag f ≡ true → is_storable f ≡ true → one_if (p f.tag) ≤ one_if (p tag) = λ tag f is storable. tagged p tag f is in
        front-most w c key (one_if (p (codes "001"))) (one_if (p (codes "003"))) (one_if (p (codes "005"))) (one_if (p (codes "008"))) (one_if (p (codes "010"))) (one_if (p (codes "040"))) m
        (one_if (p (codes "240"))) (one_if (p (codes "245"))) (one_if (p (codes "991"))) (record {
          number = subst (λ all. weighed w (number_field all) ≤ one_if (p (codes "001"))) (sym first)
              (made-most w (one_if (p (codes "001"))) (codes "001") (Control (own_name id)) (λ fits. no_more (one_if (p (codes "001")))));
          name = made-most w (one_if (p (codes "003"))) (codes "003") (Control (codes "UNION")) (λ fits. no_more (one_if (p (codes "003"))));
          f005 = slot-most w (one_if (p (codes "005"))) (has_tag (codes "005")) (under (codes "005")) c.f005 slots.0.0.0;
          fixed = made-most w (one_if (p (codes "008"))) (codes "008") (Control c.fixed.text) (λ fits. no_more (one_if (p (codes "008"))));
          f010 = slot-most w (one_if (p (codes "010"))) (has_tag (codes "010")) (under (codes "010")) c.f010 slots.0.0.1;
          f040 = slot-most w (one_if (p (codes "040"))) (has_tag (codes "040")) (under (codes "040")) c.f040 slots.0.1.0;
          f1xx = slot-most w m is_main_entry (λ f is storable. entry-tagged p m a b d e f is) c.f1xx slots.0.1.1;
          f240 = slot-most w (one_if (p (codes "240"))) (has_tag (codes "240")) (under (codes "240")) c.f240 slots.1.0;
          f245 = slot-most w (one_if (p (codes "245"))) (has_tag (codes "245")) (under (codes "245")) (Some c.f245) slots.1.1;
          key_part = made-most w (one_if (p (codes "991"))) (codes "991") (Data 0x20 0x20 (record { code = 0x61; text = front_within longest_key key } ∷ []))
              (λ fits. no_more (one_if (p (codes "991"))));
        })

    others-none : p (codes "993") ≡ false → ((f : Field) → is_united f ≡ true → p f.tag ≡ false) → counted (λ (f : Field). p f.tag) (shown_others c key) ≡ 0
    others-none made each =
        counted-none (λ (f : Field). p f.tag) (shown_others c key) (shown_others-all c sound key (λ f. not (p f.tag)) (record {
          contributor = λ one is. made-all (λ f. not (p f.tag)) (codes "993") (Data 0x20 0x20 (record { code = 0x61; text = one.library } ∷ record { code = 0x62; text = one.control } ∷ []))
              (λ fits. not_from_false (p (codes "993")) made);
          united = λ f storable is. not_from_false (p f.tag) (each f is);
        }))

    record-count : counted (λ (f : Field). p f.tag) (in_tag_order (fitting (parts c key)))
        ≡ counted (λ (f : Field). p f.tag) (front_parts c key) + counted (λ (f : Field). p f.tag) (shown_others c key)
    record-count =
        counted-in_tag_order (λ (f : Field). p f.tag) (fitting (parts c key))
        ∙ (ap (counted (λ (f : Field). p f.tag)) (fitting-split c key front-room)
        ∙ counted-append (λ (f : Field). p f.tag) (front_parts c key) (shown_others c key))

  sum_one : (all front others : ℕ) → all ≡ front + others → front ≤ 1 → 1 ≤ front → others ≡ 0 → all ≡ 1
  sum_one all front others sum most least none = omega arith

  sum_few : (all front others sum : ℕ) → all ≡ front + others → front ≤ sum → sum ≤ 1 → others ≡ 0 → all ≤ 1
  sum_few all front others sum is most few none = omega arith

  numbered : counted (is_under tag_001) (in_tag_order (fitting (parts c key))) ≡ 1
  numbered =
      let p : List ℕ → Bool = λ t. is_same t tag_001 in
      let f : Field = record { tag = codes "001"; body = Control (own_name id); well_formed = is_text-own_name id id_is } in
      let most : counted (is_under tag_001) (front_parts c key) ≤ 1 = front-count p 0 (no_more 0) (no_more 0) (no_more 0) (no_more 0) in
      let here : weighed (λ (g : Field). one_if (is_same g.tag tag_001)) (number_field c.contributors) ≡ 1
      = ap (λ all. weighed (λ (g : Field). one_if (is_same g.tag tag_001)) (number_field all)) first ∙ made-weighs (λ g. one_if (is_same g.tag tag_001)) f in
      let least : 1 ≤ counted (is_under tag_001) (front_parts c key)
      = subst (λ n. n ≤ counted (is_under tag_001) (front_parts c key)) here (front-number (λ g. one_if (is_same g.tag tag_001)) c key) in
      sum_one _ _ _ (record-count p) most least (others-none p refl (λ g is. other_tag united_tag g tag_001 is refl))

  described : counted (is_under tag_008) (in_tag_order (fitting (parts c key))) ≡ 1
  described =
      let p : List ℕ → Bool = λ t. is_same t tag_008 in
      let f : Field = record { tag = codes "008"; body = Control c.fixed.text; well_formed = sound-fixed c sound } in
      let most : counted (is_under tag_008) (front_parts c key) ≤ 1 = front-count p 0 (no_more 0) (no_more 0) (no_more 0) (no_more 0) in
      let least : 1 ≤ counted (is_under tag_008) (front_parts c key)
      = subst (λ n. n ≤ counted (is_under tag_008) (front_parts c key)) (made-weighs (λ g. one_if (is_same g.tag tag_008)) f) (front-fixed (λ g. one_if (is_same g.tag tag_008)) c key) in
      sum_one _ _ _ (record-count p) most least (others-none p refl (λ g is. other_tag united_tag g tag_008 is refl))

  titled : counted (is_under tag_245) (in_tag_order (fitting (parts c key))) ≡ 1
  titled =
      let p : List ℕ → Bool = λ t. is_same t tag_245 in
      let most : counted (is_under tag_245) (front_parts c key) ≤ 1 = front-count p 0 (no_more 0) (no_more 0) (no_more 0) (no_more 0) in
      let tag : is_same c.f245.field.tag tag_245 ≡ true = (and_parts (has_tag (codes "245") c.f245.field) (is_storable c.f245.field) (sound-slots c sound).1.1).0 in
      let here : weighed (λ (g : Field). one_if (is_same g.tag tag_245)) (c.f245.field ∷ []) ≡ 1 = ap (λ b. one_if b + 0) tag in
      let least : 1 ≤ counted (is_under tag_245) (front_parts c key)
      = subst (λ n. n ≤ counted (is_under tag_245) (front_parts c key)) here (front-title (λ g. one_if (is_same g.tag tag_245)) c key) in
      sum_one _ _ _ (record-count p) most least (others-none p refl (λ g is. other_tag united_tag g tag_245 is refl))

  apart : (k : ℕ) → (k ≡ 0 → ⊥) → counted (λ (f : Field). class_number f.tag == k) (in_tag_order (fitting (parts c key))) ≤ 1
  unfolding class_sum
  apart k some =
      let p : List ℕ → Bool = λ t. class_number t == k in
      let none : (0 == k) ≡ false = ne_eqb 0 k (λ e. some (sym e)) in
      let one = no_more (one_if (6 == k)) in
      let most : counted (λ (f : Field). class_number f.tag == k) (front_parts c key) ≤ class_sum k = front-count p (one_if (6 == k)) one one one one in
      sum_few _ _ _ (class_sum k) (record-count p) most (only_one k some) (others-none p none (λ g is. ap (λ n. n == k) (united-class g is) ∙ none))

  -- the test of a field under one tag
  passes-001 : (passes : List ℕ → Bool) → passes (own_name id) ≡ true → list_all (passes_under tag_001 passes) (in_tag_order (fitting (parts c key))) ≡ true
  passes-001 passes held =
      let q : Field → Bool = passes_under tag_001 passes in
      exported-all c sound key q (record {
        number = subst (λ all. list_all q (number_field all) ≡ true) (sym first) (made-all q (codes "001") (Control (own_name id)) (λ fits. held));
        name = made-all q (codes "003") (Control (codes "UNION")) (λ fits. refl);
        fixed = made-all q (codes "008") (Control c.fixed.text) (λ fits. refl);
        slot = λ f is storable. or_left _ _ (not_from_false _ (other_tag slot_tag f tag_001 is refl));
        key_part = made-all q (codes "991") (Data 0x20 0x20 (record { code = 0x61; text = front_within longest_key key } ∷ [])) (λ fits. refl);
        others = record {
          contributor = λ one is. made-all q (codes "993") (Data 0x20 0x20 (record { code = 0x61; text = one.library } ∷ record { code = 0x62; text = one.control } ∷ [])) (λ fits. refl);
          united = λ f storable is. or_left _ _ (not_from_false _ (other_tag united_tag f tag_001 is refl));
        };
      })

  sized : list_all (passes_under tag_008 (λ text. length text == 40)) (in_tag_order (fitting (parts c key))) ≡ true
  sized =
      let q : Field → Bool = passes_under tag_008 (λ text. length text == 40) in
      exported-all c sound key q (record {
        number = subst (λ all. list_all q (number_field all) ≡ true) (sym first) (made-all q (codes "001") (Control (own_name id)) (λ fits. refl));
        name = made-all q (codes "003") (Control (codes "UNION")) (λ fits. refl);
        fixed = made-all q (codes "008") (Control c.fixed.text) (λ fits. sound-size c sound);
        slot = λ f is storable. or_left _ _ (not_from_false _ (other_tag slot_tag f tag_008 is refl));
        key_part = made-all q (codes "991") (Data 0x20 0x20 (record { code = 0x61; text = front_within longest_key key } ∷ [])) (λ fits. refl);
        others = record {
          contributor = λ one is. made-all q (codes "993") (Data 0x20 0x20 (record { code = 0x61; text = one.library } ∷ record { code = 0x62; text = one.control } ∷ [])) (λ fits. refl);
          united = λ f storable is. or_left _ _ (not_from_false _ (other_tag united_tag f tag_008 is refl));
        };
      })

  texts-utf8 : list_all is_utf8_field (in_tag_order (fitting (parts c key))) ≡ true
  texts-utf8 =
      let q : Field → Bool = is_utf8_field in
      exported-all c sound key q (record {
        number = subst (λ all. list_all q (number_field all) ≡ true) (sym first) (made-all q (codes "001") (Control (own_name id)) (λ fits. own_name-utf8 id id_is));
        name = made-all q (codes "003") (Control (codes "UNION")) (λ fits. is_utf8-from_IsUtf8 (codes "UNION") (low_utf8 (codes "UNION") refl));
        fixed = made-all q (codes "008") (Control c.fixed.text) (λ fits. sound-utf8 c sound);
        slot = λ f is storable. (and_parts (is_short f) (is_utf8_field f) storable).1;
        key_part = made-all q (codes "991") (Data 0x20 0x20 (record { code = 0x61; text = front_within longest_key key } ∷ []))
            (λ fits. and_from (is_utf8 (front_within longest_key key)) true (front-utf8 longest_key key unicode) refl);
        others = record {
          contributor = λ one is. made-all q (codes "993") (Data 0x20 0x20 (record { code = 0x61; text = one.library } ∷ record { code = 0x62; text = one.control } ∷ []))
              (λ fits. and_from (is_utf8 one.library) (is_utf8 one.control && true) (is_utf8-from_IsUtf8 one.library (library-utf8 one is))
              (and_from (is_utf8 one.control) true (is_utf8-from_IsUtf8 one.control (control-utf8 one is)) refl));
          united = λ f storable is. (and_parts (is_short f) (is_utf8_field f) storable).1;
        };
      })

  counts : AreCounted (in_tag_order (fitting (parts c key)))
  counts = record { numbered = numbered; described = described; sized = sized; titled = titled; apart = apart }

  first-number : (s : Spells (edition_bytes c key) (exported c key)) → first_rule Whole (edition_bytes c key) ≡ number_failure 0x6E s.bytes s.entries
  first-number s =
      whole-remaining (edition_bytes c key) (exported c key) s
      ∙ remaining-numbers c.fixed.codes.status c.fixed.codes.coding s.bytes s.entries (in_tag_order (fitting (parts c key))) (codes-are c key sound).0.0 (codes-are c key sound).0.1 s.fields texts-utf8

  parts-of_id : (is_library_code id.library ≡ true) × (has_number_shape id.control ≡ true)
  parts-of_id = and_parts (is_library_code id.library) (has_number_shape id.control) id_is

  unbroken : length id.library + length (trim_end id.control) ≤ 63 → first_rule Whole (edition_bytes c key) ≡ None
  unbroken few =
      let s = exported-Spells c key sound in
      first-number s ∙ number-none s.bytes s.entries (in_tag_order (fitting (parts c key))) s.fields counts
      (passes-001 is_control_number (name-shaped id.library id.control parts-of_id.0 parts-of_id.1 few))

  accepted : length id.library + length (trim_end id.control) ≤ 63 → IsAccepted (exported c key)
  accepted few = record { frame = edition_bytes c key; spells = exported-Spells c key sound; unbroken = unbroken few }

  -- the field 001, put among the others
  numbered_first : Field
  numbered_first = record { tag = codes "001"; body = Control (own_name id); well_formed = is_text-own_name id id_is }

  behind_first : List Field
  behind_first = (control_field (codes "003") (codes "UNION") ++ (slot_fields c ++ key_field key)) ++ shown_others c key

  fields-put : in_tag_order (fitting (parts c key)) ≡ put_by_tag numbered_first (in_tag_order behind_first)
  unfolding behind_first numbered_first
  fields-put =
      ap in_tag_order (fitting-split c key front-room
      ∙ ap (λ front. (front ++ (control_field (codes "003") (codes "UNION") ++ (slot_fields c ++ key_field key))) ++ shown_others c key)
      (ap number_field first ∙ field_of-is numbered_first))

  number-place : (s : Spells (edition_bytes c key) (exported c key))
      → places tag_001 1 s.entries ≡ suc (how_many (codes "000") (in_tag_order (fitting (parts c key)))) ∷ []
  unfolding numbered_first
  number-place s =
      let rest = in_tag_order behind_first in
      let lie : AreEntriesOf s.bytes s.entries (put_by_tag numbered_first rest) = subst (λ fields. AreEntriesOf s.bytes s.entries fields) fields-put s.fields in
      let one : counted (is_under tag_001) (put_by_tag numbered_first rest) ≡ 1 = sym (ap (counted (is_under tag_001)) fields-put) ∙ numbered in
      let split : counted (is_under tag_001) (put_by_tag numbered_first rest) ≡ 1 + counted (is_under tag_001) rest = counted-put (is_under tag_001) numbered_first rest in
      place-put tag_001 s.bytes 1 s.entries numbered_first rest refl (none_left _ _ one split) lie
      ∙ (ap (λ n. n ∷ []) (next (lead numbered_first rest))
      ∙ (ap (λ n. suc n ∷ []) (lead-zeros numbered_first refl behind_first)
      ∙ ap (λ fields. suc (how_many (codes "000") fields) ∷ []) (sym fields-put)))
    where
      none_left : (all left : ℕ) → all ≡ 1 → all ≡ 1 + left → left ≡ 0
      none_left all left p q = omega arith

      next : (n : ℕ) → 1 + n ≡ suc n
      next n = omega arith

  refused : 63 < length id.library + length (trim_end id.control)
      → first_rule Whole (edition_bytes c key)
      ≡ Some (record { rule = ControlNumber; place = suc (how_many (codes "000") (in_tag_order (fitting (parts c key)))) })
  refused many =
      let s = exported-Spells c key sound in
      let misshaped : not (is_control_number (own_name id)) ≡ true = not_from_false _ (name-misshaped id.library id.control parts-of_id.0 many) in
      first-number s
      ∙ number-refused s.bytes s.entries (in_tag_order (fitting (parts c key))) s.fields counts (suc (how_many (codes "000") (in_tag_order (fitting (parts c key))))) (number-place s)
      (passes-001 (λ text. not (is_control_number text)) misshaped)

pub exported-whole : ExportedIsWhole
exported-whole c key sound = exported_whole c key sound

pub exported-unbroken : ExportedBreaksNoRule
exported-unbroken c id ids key sound first unicode few = unbroken c id ids key sound first unicode few

pub exported-accepted : ExportedIsAccepted
exported-accepted c id ids key sound first unicode few = accepted c id ids key sound first unicode few

pub exported-numbered_too_long : ExportedIsNumberedTooLong
exported-numbered_too_long c id ids key sound first unicode many = refused c id ids key sound first unicode many

pub exported-utf8 : (c : Content) (id : RecordId) (ids : List RecordId) (key : List ℕ) → is_sound c ≡ true → c.contributors ≡ id ∷ ids
    → is_utf8 key ≡ true → list_all is_utf8_field (exported c key).fields ≡ true
exported-utf8 c id ids key sound first unicode = texts-utf8 c id ids key sound first unicode
