-- The line of JSON of an edition's record.
use Rattle.std.specs.Prelude.{ℕ, List}
use Rattle.catalogue_core.specs.EditionKeys.{work_key_by}
use Rattle.authority_names.specs.Leads.{Table}
use Rattle.catalogue_editions.specs.declared.edition.Edition.{Edition}
use Rattle.catalogue_export.specs.Exported.{exported}
use Rattle.marc_json.specs.Values.{json_line}

-- the line of an edition's record, under its own work key by the table of names
unfoldable pub edition_line : Table → Edition → List ℕ
edition_line names e = json_line (exported e.content (work_key_by names e))
