-- The united fields of an edition, where each local field tells whose it is (MARC 21, $5, 'Institution to which field applies').
use Rattle.std.specs.Prelude.{ℕ, suc, Bool, not, ◌&&◌, ◌||◌, ◌==◌, nat_le, List, [], ◌∷◌, ◌++◌, length, slice_index, codes, if◌then◌else◌}
use Rattle.std.specs.Char.{is_ascii_digit}
use Rattle.std.specs.List.{flat_map, list_any}
use Rattle.std.specs.Option.{option_map_or}
use Rattle.union_base.specs.Bodies.{Subfield, Body, Control, Data, subfields_of}
use Rattle.union_base.specs.Fields.{spelled}
use Rattle.union_base.specs.FieldOrder.{field_cmp}
use Rattle.union_base.specs.SortedLists.{set_of}
use Rattle.union_base.specs.declared.field.Field.{Field}
use Rattle.union_base.specs.declared.record_id.RecordId.{RecordId}
use Rattle.marc_parts.specs.Parts.{has_tag}
use Rattle.marc_fields.specs.Spelling.{longest_field}
use Rattle.field_merge.specs.declared.content.Content.{Content}
use Rattle.catalogue_core.specs.Histories.{MapOf, at_id}
use Rattle.catalogue_editions.specs.declared.edition.Edition.{Edition}
use Rattle.catalogue_export.specs.Exported.{field_of, subfield}
use Rattle.catalogue_export.specs.OwnersLaws.{kept-united}

-- 590 to 599
abbrev pub is_59X : List ℕ → Bool
is_59X tag = (slice_index tag 0 == 0x35) && ((slice_index tag 1 == 0x39) && is_ascii_digit (slice_index tag 2))

-- 900 to 999
abbrev pub is_9XX : List ℕ → Bool
is_9XX tag = (slice_index tag 0 == 0x39) && (is_ascii_digit (slice_index tag 1) && is_ascii_digit (slice_index tag 2))

-- a local field: a library's copies, links, notes, and what it keeps for itself
abbrev pub is_local : Field → Bool
is_local f = (has_tag (codes "852") f || has_tag (codes "856") f) || (is_59X f.tag || is_9XX f.tag)

-- one of the subfields is a subfield 5
abbrev pub has_subfield_5 : List Subfield → Bool
has_subfield_5 subfields = list_any (λ s. s.code == 0x35) subfields

-- the field tells by a subfield 5 whose it is
abbrev pub has_owner : Field → Bool
has_owner f = has_subfield_5 (subfields_of f.body)

-- a data field's body with one subfield 5 more, the last, that has the library's code
abbrev pub owned_body : List ℕ → Body → Body
owned_body library (Control text) = Control text
owned_body library (Data ind1 ind2 subfields) = Data ind1 ind2 (subfields ++ subfield 0x35 library ∷ [])

-- a field can still be stored with it
abbrev pub has_room : List ℕ → Field → Bool
has_room library f = nat_le (suc (length (spelled (owned_body library f.body)))) longest_field

-- a field of the library's record gets one: it is local, tells of no owner, and has room
abbrev pub is_marked : List ℕ → Field → Bool
is_marked library f = (is_local f && not (has_owner f)) && has_room library f

-- a field of the library's record as the edition shows it
abbrev pub owned_field : List ℕ → Field → List Field
owned_field library f = (if is_marked library f then field_of f.tag (owned_body library f.body) else f ∷ [])

-- the united fields of the current record of that id, each as the edition shows it
abbrev pub record_fields : MapOf Edition → RecordId → List Field
record_fields records id = option_map_or (λ e. flat_map (owned_field id.library) e.content.united) (at_id records id) []

-- the united fields of an edition: those of its contributors' current records, in order and without repeats
abbrev pub owned_fields : MapOf Edition → Edition → List Field
owned_fields records e = set_of field_cmp (flat_map (record_fields records) e.content.contributors)

-- an edition's content with these united fields
abbrev pub owned_content : MapOf Edition → Edition → Content
owned_content records e = record {
  contributors = e.content.contributors;
  fixed = e.content.fixed;
  f005 = e.content.f005;
  f010 = e.content.f010;
  f040 = e.content.f040;
  f1xx = e.content.f1xx;
  f240 = e.content.f240;
  f245 = e.content.f245;
  united = owned_fields records e;
  kept = kept-united e.content (flat_map (record_fields records) e.content.contributors);
}
