-- Counts of faults by name.
use Rattle.std.specs.Prelude.{ℕ, ◌≡◌, ◌≢◌, List}

-- each count is as it was
abbrev pub SameCounts : (List ℕ → ℕ) → (List ℕ → ℕ) → Type 0
SameCounts old new = (name : List ℕ) → new name ≡ old name

-- each count is as it was, except perhaps that of the name
abbrev pub SameElsewhere : (List ℕ → ℕ) → (List ℕ → ℕ) → List ℕ → Type 0
SameElsewhere old new name = (other : List ℕ) → other ≢ name → new other ≡ old other
