-- What a library's current record brings to its edition.
use Rattle.std.specs.Prelude.{ℕ, List, [], ◌∷◌, map, if◌then◌else◌}
use Rattle.std.specs.Borrow.{Bor}
use Rattle.std.specs.List.{flat_map}
use Rattle.union_base.specs.declared.field.Field.{Field}
use Rattle.catalogue_export.specs.Exported.{field_of}
use Rattle.catalogue_export.specs.Owners.{is_marked, owned_body, owned_field}
use Rattle.catalogue_export.specs.declared.holding.Holding.{Holding}

-- the records' holdings themselves, where they are borrowed from where they lie
abbrev pub holdings_in : List (Bor Holding) → List Holding
holdings_in borrowed = map (λ h. h.now) borrowed

-- its united fields, each as the edition shows it
abbrev pub holding_fields : Holding → List Field
holding_fields h = flat_map (owned_field h.library) h.content.united

-- a field of the library's record, if it stays as it is
abbrev pub kept_field : List ℕ → Field → List Field
kept_field library f = (if is_marked library f then [] else f ∷ [])

-- a field of the library's record with a subfield 5, if it gets one
abbrev pub marked_field : List ℕ → Field → List Field
marked_field library f = (if is_marked library f then field_of f.tag (owned_body library f.body) else [])

-- the record's united fields that stay as they are
abbrev pub kept_fields : Holding → List Field
kept_fields h = flat_map (kept_field h.library) h.content.united

-- the record's united fields that get a subfield 5, with it
abbrev pub marked_fields : Holding → List Field
marked_fields h = flat_map (marked_field h.library) h.content.united
