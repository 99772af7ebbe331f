-- The insertion of a value into the view of a change.
use Rattle.std.specs.Prelude.{◌≡◌, ℕ, ◌⊎◌, ◌++◌, ◌∷◌, Bool, false, IsTrue, List, [], Option, None, Some, Contains}
use Rattle.std.specs.List.Sorted.{IsPermutation}
use Rattle.merge_laws.specs.Resolution.{IsDominated}
use Rattle.swoosh_resolver.specs.Tables.{Entry, block_at}
use Rattle.swoosh_resolver.specs.Changes.{view_of}

-- whether a block stands there and passes the test
abbrev pub passes : {X : Type 0} → (X → Bool) → Option X → Bool
passes test None = false
passes test (Some x) = test x

-- under the number stands a block with this value, which the other value matches
pub record IsMatchAt {R K : Type 0} (match : R → R → Bool) (blocks : List (Option (Entry R K))) (value : R) (number : ℕ) (block : R) : Type 0 where
  pub by : Entry R K
  pub stands : block_at blocks number ≡ Some by
  pub is : block ≡ by.value
  pub matches : IsTrue (match value block)

-- an opened value that the other value matches is taken out
pub record TakesMatch {R K : Type 0} (match : R → R → Bool) (opened : List (Entry R K)) (value : R) (opened' : List (Entry R K)) (by : Entry R K) : Type 0 where
  pub taken : IsPermutation opened (by ∷ opened')
  pub matches : IsTrue (match value by.value)

-- an opened value that the other value matches is taken out, and the two are merged
pub record MergesMatch {R K : Type 0} (match : R → R → Bool) (merge : R → R → R) (opened : List (Entry R K)) (value : R) (opened' : List (Entry R K)) (merged : R) : Type 0 where
  pub by : Entry R K
  pub taken : IsPermutation opened (by ∷ opened')
  pub matches : IsTrue (match value by.value)
  pub is : merged ≡ merge by.value value

-- what is closed now was closed before, or is a block that was merged into the value; what was opened before is opened now, or
-- was merged into it; and nothing else changed
pub record KeepsUnmerged {R K : Type 0} (match : R → R → Bool) (merge : R → R → R) (blocks : List (Option (Entry R K))) (closed : List ℕ) (opened : List (Entry R K)) (closed' : List ℕ) (opened' : List (Entry R K)) (merged : R) : Type 0 where
  pub closes : (n : ℕ) → Contains closed' n → Contains closed n ⊎ ((e : Entry R K) × (block_at blocks n ≡ Some e) × IsDominated match merge e.value merged)
  pub stays_closed : (n : ℕ) → Contains closed n → Contains closed' n
  pub takes_back : (e : Entry R K) → Contains opened e → Contains opened' e ⊎ IsDominated match merge e.value merged
  pub stays_opened : (e : Entry R K) → Contains opened' e → Contains opened e

-- a member of the view that the value matches is taken out of the change, and merged with the value
pub record Merges {R K : Type 0} (match : R → R → Bool) (merge : R → R → R) (blocks : List (Option (Entry R K))) (closed : List ℕ) (opened : List (Entry R K)) (value : R) (closed' : List ℕ) (opened' : List (Entry R K)) (merged : R) : Type 0 where
  pub by : R
  pub taken : IsPermutation (view_of blocks closed opened) (by ∷ view_of blocks closed' opened')
  pub matches : IsTrue (match value by)
  pub is : merged ≡ merge by value
  pub others : KeepsUnmerged match merge blocks closed opened closed' opened' merged

-- the value, with all that was merged into it, is opened last, and nothing else changed
pub record Inserts {R K : Type 0} (match : R → R → Bool) (merge : R → R → R) (blocks : List (Option (Entry R K))) (closed : List ℕ) (opened : List (Entry R K)) (value : R) (closed' : List ℕ) (opened' : List (Entry R K)) : Type 0 where
  pub by : Entry R K
  pub before : List (Entry R K)
  pub last : opened' ≡ before ++ by ∷ []
  pub dominates : IsDominated match merge value by.value
  pub others : KeepsUnmerged match merge blocks closed opened closed' before by.value
