-- The levels of a preference fit a byte.
use Rattle.std.specs.Prelude.{ℕ, ◌-◌, ◌≤◌, List, nat_eq, position, Some, None}
use Rattle.std.specs.Cmp.Lexicographic.{pointwise}
use Rattle.std.specs.Option.{option_map_or}
use Rattle.std.proofs.Common.{arith}
use Rattle.field_merge.specs.Preferences.{most_codes, level}

-- a level is 64 at most
pub level-most : (prefer : List (List ℕ)) (library : List ℕ) → level prefer library ≤ most_codes
level-most prefer library =
    elim (position (λ code. pointwise nat_eq code library) prefer) as (λ o. option_map_or (λ place. most_codes - place) o 0 ≤ most_codes) [
      | None ↦ omega arith
      | Some place ↦ omega arith
    ]
