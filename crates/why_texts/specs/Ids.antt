-- Ids and counts as text.
use Rattle.std.specs.Prelude.{ℕ, ◌==◌, if◌then◌else◌, List, [], ◌∷◌, ◌++◌, codes, decimal}
use Rattle.std.specs.List.{flat_map}
use Rattle.union_base.specs.declared.record_id.RecordId.{RecordId}

-- `LIB.CTL`
abbrev pub id_text : RecordId → List ℕ
id_text id = id.library ++ (0x2E ∷ id.control)

-- a plus sign and an id
abbrev pub plus_id : RecordId → List ℕ
plus_id id = 0x2B ∷ id_text id

abbrev pub more_ids : List RecordId → List ℕ
more_ids ids = flat_map plus_id ids

-- the ids, with a plus sign between two
abbrev pub ids_text : List RecordId → List ℕ
ids_text [] = []
ids_text (id ∷ rest) = id_text id ++ more_ids rest

-- how many records
abbrev pub count_text : ℕ → List ℕ
count_text count = (if count == 1 then codes "1 record" else decimal count ++ codes " records")
