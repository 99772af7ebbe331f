-- Where each library's current records were loaded, as it is kept.
use Rattle.std.specs.Prelude.{◌≡◌, ℕ, if◌then◌else◌, List, [], Option, nat_eq}
use Rattle.std.specs.Ordering.{nat_cmp}
use Rattle.std.specs.Cmp.Lexicographic.{pointwise, slice_cmp}
use Rattle.std.specs.BTreeMap.{is_at}
use Rattle.std.specs.Option.{option_map_or}
use Rattle.std.specs.Map.{lookup}
use Rattle.union_base.specs.declared.record_id.RecordId.{RecordId}
use Rattle.record_homes.specs.declared.place.Place.{Place}

-- the places of a library's records, under their control numbers
abbrev pub Rows : Type 0
Rows = List (List ℕ × Place)

-- the same, with room for so many more
pub record Shelf : Type 0 where
  pub rows : Rows
  pub room : ℕ

-- the libraries that have records, each with its records' places
abbrev pub Libraries : Type 0
Libraries = List (List ℕ × Shelf)

-- the place under the control number
abbrev pub row_at : Rows → List ℕ → Option Place
row_at rows control = lookup (pointwise nat_eq control) rows

-- the new rows have that under the control number, or nothing, and under each other one what the old ones have
abbrev pub Sets : Rows → Rows → List ℕ → Option Place → Type 0
Sets old new control place = (q : List ℕ) → row_at new q ≡ (if pointwise nat_eq control q then place else row_at old q)

-- the places of the library's records
abbrev pub rows_of : Libraries → List ℕ → Rows
rows_of libraries library = option_map_or (λ shelf. shelf.rows) (lookup (is_at (slice_cmp nat_cmp library)) libraries) []

-- where the record under the id was loaded: None exactly where none is current
abbrev pub place_at : Libraries → RecordId → Option Place
place_at libraries id = row_at (rows_of libraries id.library) id.control
