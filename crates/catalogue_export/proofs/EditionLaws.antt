-- The laws on the record that is shown of an edition, under its own work key.
use Rattle.std.proofs.Common.{◌≡◌, ℕ, true, ◌&&◌, List, [], ◌∷◌, refl}
use Rattle.std.specs.Prelude.{length, nat_le}
use Rattle.std.specs.List.{list_all}
use Rattle.std.specs.Str.{is_utf8}
use Rattle.union_base.specs.Both.{both_true}
use Rattle.union_base.specs.Fields.{is_text}
use Rattle.union_base.specs.SortedLists.{is_ascending}
use Rattle.union_base.specs.FieldOrder.{field_cmp}
use Rattle.union_base.specs.declared.record_id.RecordId.{RecordId}
use Rattle.marc_parts.specs.Loads.{is_utf8_field}
use Rattle.union_base.specs.RecordIds.{id_cmp}
use Rattle.authority_names.specs.Leads.{Table, AreTexts}
use Rattle.record_editions.proofs.KeyTexts.{key-work_key}
use Rattle.catalogue_core.specs.Ids.{first_id, least}
use Rattle.catalogue_core.specs.EditionKeys.{work_key_by}
use Rattle.catalogue_core.specs.Histories.{MapOf}
use Rattle.catalogue_editions.specs.declared.edition.Edition.{Edition}
use Rattle.catalogue_export.specs.Editions.{edition_text}
use Rattle.catalogue_export.specs.Exported.{exported}
use Rattle.catalogue_export.specs.ExportedLaws.{EditionIsAccepted, EditionIsNumberedTooLong, EditionIsUtf8}
use Rattle.catalogue_export.specs.Owners.{owned_content}
use Rattle.catalogue_export.proofs.OwnersProof.{owned-sound}
use Rattle.catalogue_export.proofs.ExportedProof.{exported-unbroken, exported-numbered_too_long, exported-utf8}

-- the contributors after the first
abbrev later_ids : List RecordId → List RecordId
later_ids [] = []
later_ids (id ∷ ids) = ids

first-and_later : (ids : List RecordId) → nat_le 1 (length ids) ≡ true → ids ≡ first_id ids ∷ later_ids ids
first-and_later [] some = cc
first-and_later (id ∷ ids) some = refl

module _ (e : Edition) where
  has_contributor : nat_le 1 (length e.content.contributors) ≡ true
  has_contributor =
      (both_true (nat_le 1 (length e.content.contributors)) (is_ascending id_cmp e.content.contributors && is_ascending field_cmp e.content.united) e.content.kept).0

  contributors : e.content.contributors ≡ least e ∷ later_ids e.content.contributors
  contributors = first-and_later e.content.contributors has_contributor

  utf8-work_key : (names : Table) → AreTexts names → is_utf8 (work_key_by names e) ≡ true
  utf8-work_key names texts = (both_true (is_text (work_key_by names e)) (is_utf8 (work_key_by names e)) (key-work_key names texts e)).1

pub edition-accepted : EditionIsAccepted
unfolding edition_text
edition-accepted names texts e few = exported-unbroken e.content (least e) (later_ids e.content.contributors) (work_key_by names e) e.sound (contributors e) (utf8-work_key e names texts) few

pub edition-numbered_too_long : EditionIsNumberedTooLong
unfolding edition_text
edition-numbered_too_long names texts e many =
    exported-numbered_too_long e.content (least e) (later_ids e.content.contributors) (work_key_by names e) e.sound (contributors e) (utf8-work_key e names texts) many

-- the texts of the record under a key that is UTF-8 are UTF-8
pub utf8-by_key : (e : Edition) (key : List ℕ) → is_utf8 key ≡ true → list_all is_utf8_field (exported e.content key).fields ≡ true
utf8-by_key e key unicode = exported-utf8 e.content (least e) (later_ids e.content.contributors) key e.sound (contributors e) unicode

-- and so are those of the record in which local fields tell whose they are
pub utf8-with_owners : (records : MapOf Edition) (e : Edition) (key : List ℕ) → is_utf8 key ≡ true → list_all is_utf8_field (exported (owned_content records e) key).fields ≡ true
utf8-with_owners records e key unicode =
    exported-utf8 (owned_content records e) (least e) (later_ids e.content.contributors) key (owned-sound records e) (contributors e) unicode

pub edition-utf8 : EditionIsUtf8
edition-utf8 names texts e = utf8-by_key e (work_key_by names e) (utf8-work_key e names texts)
