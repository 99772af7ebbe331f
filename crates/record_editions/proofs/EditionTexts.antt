-- The texts of an edition's fields are UTF-8, and its least contributor is an id.
use Rattle.std.proofs.Common.{◌≡◌, Bool, true, ◌&&◌, IsTrue, List, [], ◌∷◌, All, IsUtf8, subst}
use Rattle.std.specs.Prelude.{nat_le, length, codes, Option, Some, None}
use Rattle.std.specs.List.{list_all}
use Rattle.std.specs.Option.{ForSome}
use Rattle.std.proofs.lemmas.Str.{IsUtf8-from_is_utf8}
use Rattle.std.proofs.lemmas.List.Elements.{All-nil, All-cons}
use Rattle.union_base.specs.Both.{both_true}
use Rattle.union_base.specs.SortedLists.{is_ascending}
use Rattle.union_base.specs.FieldOrder.{field_cmp}
use Rattle.union_base.specs.Bodies.{Subfield, Body, Control, Data, subfields_of}
use Rattle.union_base.specs.declared.field.Field.{Field}
use Rattle.union_base.specs.declared.record_id.RecordId.{RecordId}
use Rattle.marc_fields.specs.Spelling.{is_short}
use Rattle.marc_parts.specs.Parts.{has_tag}
use Rattle.marc_parts.specs.Loads.{is_utf8_subfield, is_utf8_body, is_utf8_field}
use Rattle.field_merge.specs.Contents.{is_main_entry}
use Rattle.union_base.specs.RecordIds.{id_cmp}
use Rattle.field_merge.specs.declared.content.Content.{Content}
use Rattle.field_merge.specs.declared.slot.Slot.{Slot}
use Rattle.workset_keys.specs.Names.{HasTexts}
use Rattle.catalogue_editions.specs.Sound.{is_id, is_storable, is_slot, is_slot_or_none, is_sound}
use Rattle.catalogue_editions.specs.SoundLaws.{AreSoundParts, sound_parts}
use Rattle.catalogue_editions.specs.Ids.{first_id, least}
use Rattle.record_editions.specs.EditionKeys.{field_in}
use Rattle.catalogue_editions.specs.declared.edition.Edition.{Edition}

all_from : {X : Type 0} (p : X → Bool) (P : X → Type 0) → ((x : X) → p x ≡ true → P x) → (xs : List X) → list_all p xs ≡ true → All P xs
all_from p P each [] h = All-nil P
all_from p P each (x ∷ xs) h =
    let parts = both_true (p x) (list_all p xs) h in
    All-cons P x xs (each x parts.0) (all_from p P each xs parts.1)

body_texts : (body : Body) → is_utf8_body body ≡ true → All (λ (s : Subfield). IsUtf8 s.text) (subfields_of body)
body_texts (Control text) h = All-nil (λ (s : Subfield). IsUtf8 s.text)
body_texts (Data first second subfields) h =
    all_from is_utf8_subfield (λ (s : Subfield). IsUtf8 s.text) (λ s e. IsUtf8-from_is_utf8 s.text e) subfields h

storable_texts : (f : Field) → is_storable f ≡ true → HasTexts f
storable_texts f h = body_texts f.body (both_true (is_short f) (is_utf8_field f) h).1

slot_texts : (fits : Field → Bool) (s : Slot) → is_slot fits s ≡ true → HasTexts s.field
slot_texts fits s h = storable_texts s.field (both_true (fits s.field) (is_storable s.field) h).1

optional_texts : (fits : Field → Bool) (s : Option Slot) → is_slot_or_none fits s ≡ true → ForSome (field_in s) HasTexts
optional_texts fits None h x e = cc
optional_texts fits (Some s) h x e = let same : s.field ≡ x = cc in subst HasTexts same (slot_texts fits s h)

-- the texts of a sound content's united fields
pub united_texts : (c : Content) → IsTrue (is_sound c) → All HasTexts c.united
united_texts c sound = all_from is_storable HasTexts storable_texts c.united (sound_parts c sound).storable

first-is_id : (ids : List RecordId) → nat_le 1 (length ids) ≡ true → list_all is_id ids ≡ true → is_id (first_id ids) ≡ true
first-is_id [] some all = cc
first-is_id (id ∷ ids) some all = (both_true (is_id id) (list_all is_id ids) all).0

module _ (e : Edition) where
  sound : AreSoundParts e.content
  sound = sound_parts e.content e.sound

  pub main_texts : ForSome (field_in e.content.f1xx) HasTexts
  main_texts = optional_texts is_main_entry e.content.f1xx sound.f1xx

  pub uniform_texts : ForSome (field_in e.content.f240) HasTexts
  uniform_texts = optional_texts (has_tag (codes "240")) e.content.f240 sound.f240

  pub title_texts : HasTexts e.content.f245.field
  title_texts = slot_texts (has_tag (codes "245")) e.content.f245 sound.f245

  pub least-is_id : is_id (least e) ≡ true
  least-is_id =
      first-is_id e.content.contributors
      (both_true (nat_le 1 (length e.content.contributors)) (is_ascending id_cmp e.content.contributors && is_ascending field_cmp e.content.united) e.content.kept).0
      sound.ids
