-- The content of a record that is loaded is sound.
use Rattle.std.proofs.Common.{◌≡◌, ℕ, Bool, true, false, cond, ◌&&◌, IsTrue, List, [], ◌∷◌, refl, sym, ◌∙◌, ap}
use Rattle.std.specs.Prelude.{◌==◌, find, filter, codes, length, Some, None}
use Rattle.std.specs.List.{list_all}
use Rattle.std.specs.Option.{option_map, option_map_or, unwrap_or}
use Rattle.std.specs.Str.{is_utf8}
use Rattle.std.proofs.lemmas.Str.{is_utf8-from_IsUtf8, IsUtf8-nil}
use Rattle.union_base.specs.Both.{both_true, true_both}
use Rattle.union_base.specs.FieldOrder.{field_cmp}
use Rattle.union_base.specs.Fields.{is_text, is_tag, is_control_tag, is_field}
use Rattle.union_base.specs.LibraryCodes.{is_library_code}
use Rattle.union_base.specs.Bodies.{Body, Control, Data}
use Rattle.union_base.specs.declared.field.Field.{Field}
use Rattle.marc_leader.specs.Codes.{Codes, is_printable, are_printable}
use Rattle.marc_fields.specs.Spelling.{is_short}
use Rattle.marc_parts.specs.declared.marc_record.Record.{Record}
use Rattle.marc_parts.specs.Parts.{has_tag, first_under, text_under, how_many, control_text, control_number}
use Rattle.marc_parts.specs.Loads.{is_utf8_body, is_utf8_field, has_number_shape, is_numbered, is_load_status, is_described, is_loadable}
use Rattle.field_merge.specs.Contents.{is_main_entry, is_united, codes_of, slot, content, contributor, untitled}
use Rattle.field_merge.specs.Ranks.{rank}
use Rattle.field_merge.specs.declared.rank.Rank.{Rank}
use Rattle.field_merge.proofs.Gathering.{title-from_loadable}
use Rattle.catalogue_editions.specs.Sound.{is_id, is_storable, are_edition_codes, is_slot, is_slot_or_none, is_sound}
use Rattle.catalogue_editions.specs.SoundLaws.{sound_whole}
use Rattle.catalogue_editions.specs.ListLaws.{all-union}

-- ---- lists

module _ {K : Type 0} (p q : K → Bool) where
  both-all : (xs : List K) → list_all p xs ≡ true → list_all q xs ≡ true → list_all (λ x. p x && q x) xs ≡ true
  both-all [] a b = refl
  both-all (x ∷ xs) a b =
      let one = both_true (p x) (list_all p xs) a in
      let two = both_true (q x) (list_all q xs) b in
      true_both (p x && q x) (list_all (λ y. p y && q y) xs) (true_both (p x) (q x) one.0 two.0) (both-all xs one.1 two.1)

  -- what is found passes the test, and whatever all pass
  found : (xs : List K) (x : K) → list_all q xs ≡ true → find p xs ≡ Some x → (p x && q x) ≡ true
  found [] x all e = cc
  found (y ∷ ys) x all e =
      let parts = both_true (q y) (list_all q ys) all in
      elim (p y) as (λ b. p y ≡ b → cond b (Some y) (find p ys) ≡ Some x → (p x && q x) ≡ true) [
        | true ↦ λ test is. let same : y ≡ x = cc in true_both (p x) (q x) (ap p (sym same) ∙ test) (ap q (sym same) ∙ parts.0)
        | false ↦ λ test is. found ys x parts.1 is
      ] refl e

  all-filter : (xs : List K) → list_all q xs ≡ true → list_all q (filter p xs) ≡ true
  all-filter [] all = refl
  all-filter (x ∷ xs) all =
      let parts = both_true (q x) (list_all q xs) all in
      elim (p x) as (λ b. list_all q (cond b (x ∷ filter p xs) (filter p xs)) ≡ true) [
        | true ↦ true_both (q x) (list_all q (filter p xs)) parts.0 (all-filter xs parts.1)
        | false ↦ all-filter xs parts.1
      ]

  passes-filter : (xs : List K) → list_all p (filter p xs) ≡ true
  passes-filter [] = refl
  passes-filter (x ∷ xs) =
      elim (p x) as (λ b. p x ≡ b → list_all p (cond b (x ∷ filter p xs) (filter p xs)) ≡ true) [
        | true ↦ λ test. true_both (p x) (list_all p (filter p xs)) test (passes-filter xs)
        | false ↦ λ test. passes-filter xs
      ] refl

-- ---- slots

slot-found : (p : Field → Bool) (k : Rank) (fields : List Field) → list_all is_storable fields ≡ true
    → is_slot_or_none p (option_map (slot k) (find p fields)) ≡ true
slot-found p k fields all =
    elim (find p fields) as (λ o. find p fields ≡ o → is_slot_or_none p (option_map (slot k) o) ≡ true) [
      | None ↦ λ e. refl
      | Some x ↦ λ e. found p is_storable fields x all e
    ] refl

-- ---- the fixed part

-- the codes stay printable
codes-printable : (c : Codes) → are_printable c ≡ true → are_printable (codes_of c) ≡ true
codes-printable c h =
    let a = both_true (is_printable c.status) _ h in
    let b = both_true (is_printable c.kind) _ a.1 in
    let d = both_true (is_printable c.level) _ b.1 in
    let e = both_true (is_printable c.control) _ d.1 in
    let f = both_true (is_printable c.coding) _ e.1 in
    let g = both_true (is_printable c.encoding) _ f.1 in
    let i = both_true (is_printable c.form) _ g.1 in
    let j = both_true (is_printable c.part) (is_printable c.last) i.1 in
    true_both (is_printable c.kind) _ b.0 (true_both (is_printable c.level) _ d.0 (true_both (is_printable c.control) _ e.0
    (true_both (is_printable c.encoding) _ g.0 (true_both (is_printable c.form) _ i.0 (true_both (is_printable c.part) true j.0 refl)))))

-- the text of a control field is one
text-of_body : (tag : List ℕ) (body : Body) → is_field tag body ≡ true → is_text (control_text body) ≡ true
text-of_body tag (Control text) h = (both_true (is_control_tag tag) (is_text text) (both_true (is_tag tag) _ h).1).1
text-of_body tag (Data first second subfields) h = refl

utf8-none : is_utf8 [] ≡ true
utf8-none = is_utf8-from_IsUtf8 [] IsUtf8-nil

utf8-of_body : (f : Field) → is_utf8_field f ≡ true → is_utf8 (control_text f.body) ≡ true
utf8-of_body f h = by f.body h
  where
    by : (body : Body) → is_utf8_body body ≡ true → is_utf8 (control_text body) ≡ true
    by (Control text) h = h
    by (Data first second subfields) h = utf8-none

fixed-text : (fields : List Field) → list_all is_utf8_field fields ≡ true → (is_text (text_under (codes "008") fields) && is_utf8 (text_under (codes "008") fields)) ≡ true
fixed-text fields all =
    elim (first_under (codes "008") fields) as (λ o. first_under (codes "008") fields ≡ o
    → (is_text (option_map_or (λ f. control_text f.body) o []) && is_utf8 (option_map_or (λ f. control_text f.body) o [])) ≡ true) [
      | None ↦ λ e. utf8-none
      | Some f ↦ λ e.
          (let utf8 = (both_true (has_tag (codes "008") f) (is_utf8_field f) (found (has_tag (codes "008")) is_utf8_field fields f all e)).1 in
          true_both (is_text (control_text f.body)) (is_utf8 (control_text f.body)) (text-of_body f.tag f.body f.well_formed) (utf8-of_body f utf8))
    ] refl

-- ---- the record

-- the library has such a code, the record can be loaded, and a frame can store it
abbrev pub is_loaded : List ℕ → Record → Bool
is_loaded library r = (is_library_code library && is_loadable r) && (are_printable r.leader && list_all is_short r.fields)

-- the content of a record that can be loaded is sound
pub sound_record : (prefer : List (List ℕ)) (library : List ℕ) (r : Record) → IsTrue (is_loaded library r)
    → IsTrue (is_sound (content prefer library r))
sound_record prefer library r loaded =
    let halves = both_true (is_library_code library && is_loadable r) (are_printable r.leader && list_all is_short r.fields) loaded in
    let front = both_true (is_library_code library) (is_loadable r) halves.0 in
    let back = both_true (are_printable r.leader) (list_all is_short r.fields) halves.1 in
    let loads = both_true (is_load_status r.leader.status && is_numbered r) (is_described r && list_all is_utf8_field r.fields) front.1 in
    let numbered = both_true (is_load_status r.leader.status) (is_numbered r) loads.0 in
    let number = both_true (how_many (codes "001") r.fields == 1) (has_number_shape (control_number r)) numbered.1 in
    let described = both_true (is_described r) (list_all is_utf8_field r.fields) loads.1 in
    let shape = both_true ((how_many (codes "008") r.fields == 1) && (length (text_under (codes "008") r.fields) == 40)) (how_many (codes "245") r.fields == 1) described.0 in
    let sized = both_true (how_many (codes "008") r.fields == 1) (length (text_under (codes "008") r.fields) == 40) shape.0 in
    let storable : list_all is_storable r.fields ≡ true = both-all is_short is_utf8_field r.fields back.1 described.1 in
    let (title, is) = title-from_loadable r front.1 in
    let k = rank prefer library r in
    sound_whole (content prefer library r) (record {
      ids = true_both (is_id (contributor library r)) true (true_both (is_library_code library) (has_number_shape (control_number r)) front.0 number.1) refl;
      fixed = true_both (are_edition_codes (codes_of r.leader)) _
          (true_both (are_printable (codes_of r.leader)) true (codes-printable r.leader back.0) refl)
          (true_both (length (text_under (codes "008") r.fields) == 40) _ sized.1 (fixed-text r.fields described.1));
      f005 = slot-found (has_tag (codes "005")) k r.fields storable;
      f010 = slot-found (has_tag (codes "010")) k r.fields storable;
      f040 = slot-found (has_tag (codes "040")) k r.fields storable;
      f1xx = slot-found is_main_entry k r.fields storable;
      f240 = slot-found (has_tag (codes "240")) k r.fields storable;
      f245 = ap (λ o. is_slot (has_tag (codes "245")) (slot k (unwrap_or o untitled))) is ∙ found (has_tag (codes "245")) is_storable r.fields title storable is;
      storable = all-union field_cmp is_storable [] (filter is_united r.fields) refl (all-filter is_united is_storable r.fields storable);
      united = all-union field_cmp is_united [] (filter is_united r.fields) refl (passes-filter is_united is_united r.fields);
    })
