-- What the catalogue exports of its editions.
use Rattle.std.specs.Prelude.{ℕ, ◌==◌, List, [], ◌∷◌, if◌then◌else◌}
use Rattle.std.specs.List.{flat_map}
use Rattle.union_base.specs.declared.record_id.RecordId.{RecordId}
use Rattle.catalogue_core.specs.Ids.{least}
use Rattle.catalogue_core.specs.EditionKeys.{work_key_by}
use Rattle.authority_names.specs.Leads.{Table}
use Rattle.catalogue_editions.specs.declared.edition.Edition.{Edition}
use Rattle.catalogue_export.specs.Exported.{edition_bytes, left_out}

-- an edition's record, under its own work key by the table of names
unfoldable pub edition_text : Table → Edition → List ℕ
edition_text names e = edition_bytes e.content (work_key_by names e)

-- the export: the records of the editions, one after the other
abbrev pub export_text : Table → List Edition → List ℕ
export_text names editions = flat_map (edition_text names) editions

-- how many of an edition's fields its record has no room for
unfoldable pub fields_left : Table → Edition → ℕ
fields_left names e = left_out e.content (work_key_by names e)

-- an edition by its least contributor, where `count` of its fields were left out
abbrev pub noted : Edition → ℕ → List (RecordId × ℕ)
noted e count = if count == 0 then [] else (least e, count) ∷ []
