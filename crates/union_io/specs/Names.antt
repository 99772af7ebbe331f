-- The names that were opened at a shelf.
use Rattle.std.specs.Prelude.{ℕ, ◌≡◌, ◌⊎◌, List, [], ◌∷◌, Bool, false, ◌||◌, IsTrue}
use Rattle.std.specs.Str.{bytes_eq}

-- whether the name is one of the names
unfoldable pub is_among : List ℕ → List (List ℕ) → Bool
is_among name [] = false
is_among name (first ∷ rest) = bytes_eq name first || is_among name rest

-- the names are the old ones and this one
pub record AddsName (old new : List (List ℕ)) (name : List ℕ) : Type 0 where
  pub added : IsTrue (is_among name new)
  pub kept : (other : List ℕ) → IsTrue (is_among other old) → IsTrue (is_among other new)
  pub only : (other : List ℕ) → IsTrue (is_among other new) → IsTrue (is_among other old) ⊎ (other ≡ name)
