-- How a preference lies in its sixty-four places.
use Rattle.std.specs.Prelude.{◌≡◌, ℕ, ◌-◌, ◌≤◌, IsTrue, List, length, take, ◌++◌, replicate, codes}
use Rattle.std.proofs.Common.{sym, arith}
use Rattle.std.proofs.lemmas.List.{length-take}
use Rattle.field_merge.specs.Preferences.{most_codes, are_preferred}

-- the code that stands in the places that are not used
abbrev pub unused : List ℕ
unused = codes "0"

-- the first `size` codes are preferred, and unused places follow up to the sixty-fourth
pub record IsFilled (places : List (List ℕ)) (size : ℕ) : Type 0 where
  pub preferred : IsTrue (are_preferred (take size places))
  pub whole : length places ≡ most_codes
  pub rest : places ≡ take size places ++ replicate (most_codes - size) unused
  pub within : size ≤ most_codes

-- as many places are filled as are counted
pub filled_size : (places : List (List ℕ)) (size : ℕ) → IsFilled places size → length (take size places) ≡ size
filled_size places size filled = omega (arith, length-take {A = List ℕ}, filled.whole, filled.within)

-- the codes and the unused places after them give the places back
pub filled_places : (places : List (List ℕ)) (size : ℕ) → IsFilled places size
    → take size places ++ replicate (most_codes - length (take size places)) unused ≡ places
filled_places places size filled = rw (filled_size places size filled) (sym filled.rest)
