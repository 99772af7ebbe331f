-- How a table lies in memory: its headings with what each leads to, by the place of a heading among them.
use Rattle.std.specs.Prelude.{◌≡◌, ◌==◌, ℕ, ◌<◌, Bool, true, false, List, Option, None, Some, if◌then◌else◌, nat_eq, map, length, slice_get}
use Rattle.std.specs.Cmp.Lexicographic.{pointwise}
use Rattle.std.specs.FinMap as finite
use Rattle.std.specs.Map.{keys_of, lookup}
use Rattle.authority_names.specs.declared.leads.Lead.{Lead}
use Rattle.authority_names.specs.declared.leads.Lead.TheVariants.{Nowhere, To}
use Rattle.authority_names.specs.Leads.{Table}

-- the heading at the place
abbrev pub heading_at : List (List ℕ) → Lead → Option (List ℕ)
heading_at headings Nowhere = None
heading_at headings (To place) = slice_get headings place

-- it leads to a heading
abbrev pub leads : Lead → Bool
leads Nowhere = false
leads (To place) = true

-- the table that the entries are
abbrev pub table_of : List (List ℕ × Lead) → Table
table_of entries = finite.from_entries (map (λ e. (e.0, heading_at (keys_of entries) e.1)) entries)

-- there is such a place
abbrev pub IsPlace : ℕ → Lead → Type 0
IsPlace count Nowhere = Unit {0}
IsPlace count (To place) = place < count

-- each heading that leads to another leads to a place
abbrev pub HasPlaces : List (List ℕ × Lead) → Type 0
HasPlaces entries =
    (x : List ℕ) (lead : Lead) → lookup (pointwise nat_eq x) entries ≡ Some lead
    → IsPlace (length entries) lead

-- what a heading leads to, once it leads to that place too
abbrev pub joined_place : Option Lead → ℕ → Lead
joined_place None place = To place
joined_place (Some Nowhere) place = Nowhere
joined_place (Some (To other)) place = if other == place then To place else Nowhere
