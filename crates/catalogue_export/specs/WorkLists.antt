-- The works of a catalogue, as they are listed.
use Rattle.std.specs.Prelude.{ℕ, List, [], ◌∷◌, ◌++◌, codes}
use Rattle.std.specs.List.{flat_map}
use Rattle.union_base.specs.declared.record_id.RecordId.{RecordId}
use Rattle.workset_keys.specs.WorkKeys.{own_name}
use Rattle.work_clusters.specs.Works.{works_of}
use Rattle.catalogue_core.specs.EditionKeys.{work_pairs}
use Rattle.authority_names.specs.Leads.{Table}
use Rattle.catalogue_editions.specs.declared.edition.Edition.{Edition}

-- ` LIB.CTL`: an edition, by its least contributor
unfoldable pub edition_line : RecordId → List ℕ
edition_line id = 0x20 ∷ (own_name id ++ 0x0A ∷ [])

-- `work KEY`, and a line for each of its editions
unfoldable pub work_text : List ℕ × List RecordId → List ℕ
work_text work = codes "work " ++ (work.0 ++ 0x0A ∷ flat_map edition_line work.1)

-- the works of the editions by the names, in order of their keys
abbrev pub works_text_of : Table → List Edition → List ℕ
works_text_of names editions = flat_map work_text (works_of (work_pairs names editions))
