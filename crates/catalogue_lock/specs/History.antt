-- A history is a list of entries, each a pair of pass number and change, the oldest first.
use Rattle.std.specs.Prelude.{◌≡◌, ℕ, List, ◌++◌, map, filter, ◌==◌}

module _ {C : Type 0} where
  -- the changes of the entries with this number, in order
  abbrev pub changes_of : ℕ → List (ℕ × C) → List C
  changes_of number history = map (λ (e : ℕ × C). e.1) (filter (λ (e : ℕ × C). e.0 == number) history)

  -- the second list goes on from the first
  abbrev pub IsPrefix : List (ℕ × C) → List (ℕ × C) → Type 0
  IsPrefix first whole = (rest : List (ℕ × C)) × (first ++ rest ≡ whole)
