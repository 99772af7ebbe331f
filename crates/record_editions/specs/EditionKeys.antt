-- The work key of an edition.
use Rattle.std.specs.Prelude.{◌≡◌, ℕ, Bool, ◌||◌, List, Option, codes, filter, map}
use Rattle.std.specs.FinMap.{empty}
use Rattle.std.specs.Option.{option_map}
use Rattle.union_base.specs.declared.field.Field.{Field}
use Rattle.union_base.specs.declared.record_id.RecordId.{RecordId}
use Rattle.marc_parts.specs.Parts.{has_tag}
use Rattle.field_merge.specs.declared.slot.Slot.{Slot}
use Rattle.workset_keys.specs.Names.{name_of}
use Rattle.workset_keys.specs.WorkKeys.{main_name, least_of, key_of_names, work_key}
use Rattle.authority_names.specs.Leads.{Table, used_for}
use Rattle.catalogue_editions.specs.Ids.{least}
use Rattle.catalogue_editions.specs.declared.edition.Edition.{Edition}

-- an added entry under a name: 700, 710 or 711
abbrev pub is_added_entry : Field → Bool
is_added_entry f = has_tag (codes "700") f || (has_tag (codes "710") f || has_tag (codes "711") f)

-- the field of a slot
abbrev pub field_in : Option Slot → Option Field
field_in slot = option_map (λ s. s.field) slot

-- the names of the added entries among the fields, as the table has them
abbrev pub added_names : Table → List Field → List (List ℕ)
added_names names fields = map (λ f. used_for names (name_of f)) (filter is_added_entry fields)

-- by the main entry, the 240, the 245, the added entries under names, and the least contributor; each name is the one that the
-- table has for it
abbrev pub work_key_by : Table → Edition → List ℕ
work_key_by names e =
    key_of_names (used_for names (main_name (field_in e.content.f1xx))) (least_of (added_names names e.content.united))
    (field_in e.content.f1xx) (field_in e.content.f240) e.content.f245.field (least e)

-- the work keys of editions, each with the id by which its edition is named
abbrev pub work_pairs : Table → List Edition → List (List ℕ × RecordId)
work_pairs names editions = map (λ e. (work_key_by names e, least e)) editions

-- a table of no names leaves the key
abbrev pub IsKeyWithoutNames : Type 0
IsKeyWithoutNames =
    (e : Edition) → work_key_by empty e
    ≡ work_key (field_in e.content.f1xx) (field_in e.content.f240) e.content.f245.field (filter is_added_entry e.content.united) (least e)
