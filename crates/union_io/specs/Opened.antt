-- The names that were opened at a shelf, each with its count of faults.
use Rattle.std.specs.Prelude.{ℕ, List, unwrap_or}
use Rattle.std.specs.Ordering.{nat_cmp}
use Rattle.std.specs.Cmp.Lexicographic.{slice_cmp}
use Rattle.std.specs.BTreeMap.{is_at}
use Rattle.std.specs.Map.{keys_of, lookup}

-- the names, each once
abbrev pub names_in : List (List ℕ × ℕ) → List (List ℕ)
names_in counts = keys_of counts

-- the count of a name, which is 0 for a name that was not opened
abbrev pub count_in : List (List ℕ × ℕ) → List ℕ → ℕ
count_in counts name = unwrap_or (lookup (is_at (slice_cmp nat_cmp name)) counts) 0
