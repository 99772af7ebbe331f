-- Values that have keys, and the groups of those that share keys, directly or through others. A labelling gives each place of a list a
-- label, a number. Links give each place of a list a place of its group.
use Rattle.std.specs.Prelude.{◌≡◌, ◌≤◌, ◌<◌, ℕ, List, Some, length, slice_get, slice_index_or, Contains, AllPairs}
use Rattle.std.specs.List.{flat_map}

-- x and y have no key in common
abbrev pub ShareNoKey : {A K : Type 0} → (A → K → Type 0) → A → A → Type 0
ShareNoKey has_key x y = (k : _) → has_key x k → has_key y k → ⊥

-- values of the list that have a key in common have one label
abbrev pub JoinsByKeys : {A K : Type 0} → (A → K → Type 0) → List A → (ℕ → ℕ) → Type 0
JoinsByKeys {A} {K} has_key list label =
    (i j : ℕ) (x y : A) (k : K) → slice_get list i ≡ Some x → slice_get list j ≡ Some y
    → has_key x k → has_key y k → label i ≡ label j

-- each place has the label of the place that it is linked to
abbrev pub Follows : List ℕ → (ℕ → ℕ) → Type 0
Follows links label = (i : ℕ) → i < length links → label (slice_index_or links i 0) ≡ label i

-- each place is linked to itself or to an earlier one
abbrev pub AreLinks : List ℕ → Type 0
AreLinks links = (i : ℕ) → i < length links → slice_index_or links i 0 ≤ i

-- a label of two places has a size of more than one
abbrev pub AreSized : List ℕ → List ℕ → Type 0
AreSized sizes labels =
    (i j : ℕ) → i < j → j < length labels → slice_index_or labels i 0 ≡ slice_index_or labels j 0
    → 1 < slice_index_or sizes (slice_index_or labels j 0) 0

-- two values of a group stand at places that have one label
abbrev pub AreAlike : {A : Type 0} → List A → List ℕ → List (List A) → Type 0
AreAlike {A} list labels groups =
    (group : List A) (x y : A) → Contains groups group → Contains group x → Contains group y
    → (i : ℕ) × (j : ℕ) × (slice_get list i ≡ Some x) × (slice_get list j ≡ Some y) × (slice_index_or labels i 0 ≡ slice_index_or labels j 0)

-- the values of all groups
abbrev pub together : {A : Type 0} → List (List A) → List A
together groups = flat_map (λ group. group) groups

-- what is one number for values of the list that have a key in common is one number for all values of a group
abbrev pub AreJoined : {A K : Type 0} → (A → K → Type 0) → List A → List (List A) → Type 0
AreJoined {A} {K} has_key list groups =
    (number : A → ℕ)
    → ((x y : A) (k : K) → Contains list x → Contains list y → has_key x k → has_key y k → number x ≡ number y)
    → (group : List A) (x y : A) → Contains groups group → Contains group x → Contains group y → number x ≡ number y

-- a stranger shares no key with another stranger, nor with a value of a group, and no two values of different groups share a key
pub record AreCutApart {A K : Type 0} (has_key : A → K → Type 0) (strangers : List A) (groups : List (List A)) : Type 0 where
  pub strangers_apart : AllPairs (ShareNoKey has_key) strangers
  pub beside : (x y : A) (group : List A) → Contains strangers x → Contains groups group → Contains group y → ShareNoKey has_key x y
  pub groups_apart : AllPairs (λ one other. (x y : A) → Contains one x → Contains other y → ShareNoKey has_key x y) groups
