-- The content of an edition is sound where its local fields tell whose they are.
use Rattle.std.proofs.Common.{◌≡◌, ℕ, suc, ◌+◌, Bool, true, false, ◌&&◌, List, [], ◌∷◌, ◌++◌, length, length-append, refl, sym, ap, ◌∙◌, arith}
use Rattle.std.specs.Prelude.{nat_le, Option, Some, None, if◌then◌else◌}
use Rattle.std.specs.List.{list_all, flat_map}
use Rattle.std.specs.Option.{option_map_or}
use Rattle.std.specs.Str.{is_utf8}
use Rattle.std.proofs.lemmas.List.Folds.{list_all-append}
use Rattle.std.proofs.lemmas.Str.{is_utf8-from_IsUtf8}
use Rattle.std.proofs.lemmas.List.Concat.{flat_map-cons}
use Rattle.union_base.specs.Both.{both_true, true_both}
use Rattle.union_base.specs.Bodies.{Body, Control, Data}
use Rattle.union_base.specs.Fields.{is_field, spelled}
use Rattle.union_base.specs.FieldOrder.{field_cmp}
use Rattle.union_base.specs.declared.field.Field.{Field}
use Rattle.union_base.specs.declared.record_id.RecordId.{RecordId}
use Rattle.marc_parts.specs.Loads.{is_utf8_field, is_utf8_body, is_utf8_subfield}
use Rattle.marc_fields.specs.Spelling.{is_short}
use Rattle.field_merge.specs.Contents.{is_united}
use Rattle.catalogue_core.specs.Histories.{MapOf, at_id}
use Rattle.catalogue_editions.specs.ListLaws.{all-union}
use Rattle.catalogue_editions.specs.Sound.{is_id, is_storable, is_sound}
use Rattle.catalogue_editions.specs.SoundLaws.{sound_parts, sound_whole}
use Rattle.catalogue_editions.specs.declared.edition.Edition.{Edition}
use Rattle.field_merge.specs.declared.content.Content.{Content}
use Rattle.catalogue_export.specs.Exported.{field_of, own_parts, parts}
use Rattle.catalogue_export.specs.OwnFields.{own_list}
use Rattle.catalogue_export.specs.declared.own_fields.OwnFields.{OwnFields}
use Rattle.catalogue_export.specs.Owners.{is_marked, is_local, has_owner, has_room, owned_body, owned_field, record_fields, owned_fields, owned_content}
use Rattle.std.specs.Prelude.{not}
use Rattle.catalogue_export.proofs.ExportedParts.{made-all}
use Rattle.catalogue_export.proofs.ExportedProof.{library-utf8}
use Rattle.catalogue_export.proofs.SoundLaws.{sound-united}

-- ---- one field

-- a body in UTF-8 stays so with the library's code
body-utf8 : (library : List ℕ) (body : Body) → is_utf8 library ≡ true → is_utf8_body body ≡ true → is_utf8_body (owned_body library body) ≡ true
body-utf8 library (Control text) code unicode = unicode
body-utf8 library (Data ind1 ind2 subfields) code unicode =
    list_all-append is_utf8_subfield subfields (record { code = 0x35; text = library } ∷ [])
    ∙ true_both (list_all is_utf8_subfield subfields) (is_utf8 library && true) unicode (true_both (is_utf8 library) true code refl)

-- a field that has room is short
room-short : (body : Body) → nat_le (suc (length (spelled body))) 9999 ≡ true → nat_le (length (spelled body ++ 0x1E ∷ [])) 9999 ≡ true
room-short body room = ap (λ n. nat_le n 9999) (length-append (spelled body) (0x1E ∷ []) ∙ plus-one (length (spelled body))) ∙ room
  where
    plus-one : (n : ℕ) → n + 1 ≡ suc n
    plus-one n = omega arith

-- what a field of a library's record is shown as passes a test, where the field does and any field of its tag and that body does
shown-all : (q : Field → Bool) (library : List ℕ) (f : Field) → q f ≡ true
    → (has_room library f ≡ true → (fits : is_field f.tag (owned_body library f.body) ≡ true) → q (record { tag = f.tag; body = owned_body library f.body; well_formed = fits }) ≡ true)
    → list_all q (owned_field library f) ≡ true
shown-all q library f one each =
    elim (is_marked library f) as (λ b. is_marked library f ≡ b → list_all q (if b then field_of f.tag (owned_body library f.body) else f ∷ []) ≡ true) [
      | true ↦ λ marked. made-all q f.tag (owned_body library f.body) (each (both_true (is_local f && not (has_owner f)) (has_room library f) marked).1)
      | false ↦ λ other. true_both (q f) true one refl
    ] refl

shown-storable : (library : List ℕ) → is_utf8 library ≡ true → (f : Field) → is_storable f ≡ true → list_all is_storable (owned_field library f) ≡ true
shown-storable library code f storable =
    shown-all is_storable library f storable
    (λ room fits.
    let made : Field = record { tag = f.tag; body = owned_body library f.body; well_formed = fits } in
    true_both (is_short made) (is_utf8_field made) (room-short (owned_body library f.body) room)
    (body-utf8 library f.body code (both_true (is_short f) (is_utf8_field f) storable).1))

shown-united : (library : List ℕ) (f : Field) → is_united f ≡ true → list_all is_united (owned_field library f) ≡ true
shown-united library f united = shown-all is_united library f united (λ room fits. united)

-- ---- all fields

all-flat : {A : Type 0} (p : A → Bool) (q : Field → Bool) (shown : A → List Field) → ((x : A) → p x ≡ true → list_all q (shown x) ≡ true)
    → (xs : List A) → list_all p xs ≡ true → list_all q (flat_map shown xs) ≡ true
all-flat p q shown each [] all = refl
all-flat p q shown each (x ∷ xs) all =
    let parts = both_true (p x) (list_all p xs) all in
    ap (list_all q) (flat_map-cons shown x xs)
    ∙ (list_all-append q (shown x) (flat_map shown xs) ∙ true_both (list_all q (shown x)) (list_all q (flat_map shown xs)) (each x parts.0) (all-flat p q shown each xs parts.1))

module _ (records : MapOf Edition) where
  record-all : (p q : Field → Bool) → ((e : Edition) → list_all p e.content.united ≡ true) → (id : RecordId)
      → ((f : Field) → p f ≡ true → list_all q (owned_field id.library f) ≡ true) → list_all q (record_fields records id) ≡ true
  record-all p q passes id each = by (at_id records id)
    where
      by : (o : Option Edition) → list_all q (option_map_or (λ e. flat_map (owned_field id.library) e.content.united) o []) ≡ true
      by None = refl
      by (Some e) = all-flat p q (owned_field id.library) each e.content.united (passes e)

  fields-all : (p q : Field → Bool) → ((e : Edition) → list_all p e.content.united ≡ true)
      → ((id : RecordId) → is_id id ≡ true → (f : Field) → p f ≡ true → list_all q (owned_field id.library f) ≡ true)
      → (ids : List RecordId) → list_all is_id ids ≡ true → list_all q (flat_map (record_fields records) ids) ≡ true
  fields-all p q passes each ids are = all-flat is_id q (record_fields records) (λ id is. record-all p q passes id (each id is)) ids are

  -- the content of an edition with owners is sound
  pub owned-sound : (e : Edition) → is_sound (owned_content records e) ≡ true
  owned-sound e =
      let s = sound_parts e.content e.sound in
      sound_whole (owned_content records e) (record {
        ids = s.ids;
        fixed = s.fixed;
        f005 = s.f005;
        f010 = s.f010;
        f040 = s.f040;
        f1xx = s.f1xx;
        f240 = s.f240;
        f245 = s.f245;
        storable = all-union field_cmp is_storable [] (flat_map (record_fields records) e.content.contributors) refl
            (fields-all is_storable is_storable (λ b. (sound-united b.content b.sound).0) (λ id is. shown-storable id.library (is_utf8-from_IsUtf8 id.library (library-utf8 id is))) e.content.contributors s.ids);
        united = all-union field_cmp is_united [] (flat_map (record_fields records) e.content.contributors) refl
            (fields-all is_united is_united (λ b. (sound-united b.content b.sound).1) (λ id is. shown-united id.library) e.content.contributors s.ids);
      })

-- ---- the fields of its record

-- its own parts are those of the edition
own-same : (records : MapOf Edition) (e : Edition) (key : List ℕ) → own_parts (owned_content records e) key ≡ own_parts e.content key
unfolding own_parts
own-same records e key = refl

-- the fields that the catalogue makes, and these united fields, are the parts of its record
pub owned-all : (records : MapOf Edition) (e : Edition) (key : List ℕ) (own : OwnFields) (united : List Field) (shown : Content) → shown ≡ e.content
    → own_list own shown ≡ own_parts shown key → united ≡ owned_fields records e → own_list own shown ++ united ≡ parts (owned_content records e) key
owned-all records e key own united shown same made is =
    ap (λ fs. fs ++ united) (made ∙ (ap (λ c. own_parts c key) same ∙ sym (own-same records e key)))
    ∙ ap (λ us. own_parts (owned_content records e) key ++ us) is
