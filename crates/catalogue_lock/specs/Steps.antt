-- What a step tells the pass that makes it: of its view and the slot in its hands before (m) and after (m'), and the word n that the step found. And what is true of a pass between two steps of its own.
use Rattle.std.specs.Prelude.{◌≡◌, ℕ, ◌*◌, ◌/◌, ◌≤◌, ◌==◌, true, false, List, [], ◌∷◌, length, MatchBool, Option, Some}
use Rattle.atomic_table.specs.Table.{Me, Step}
use Rattle.catalogue_lock.specs.History.{changes_of, IsPrefix}
use Rattle.catalogue_lock.specs.Ended.Role.{AsPass}
use Rattle.catalogue_lock.specs.Views.{looked, tried, taken, released}
use Rattle.catalogue_lock.specs.declared.view.View.{View}

-- a history that goes on from what the pass has seen, with the pass's own entries and no others of its number
abbrev pub Follows : {S C : Type 0} → List (ℕ × C) → View S C → Type 0
Follows history v = IsPrefix v.seen history × (changes_of v.number history ≡ v.own) × (v.floor ≤ length history)

module _ {M S C : Type 0} where
  -- a load, by a pass that doesn't hold the turn
  abbrev pub loads : Step (Option M) → Me (Option M) (View S C) → ℕ → Me (Option M) (View S C) → Type 0
  loads st m n m' = (m.0.holds ≡ false) × (m' ≡ (looked n m.0, m.1)) × (m.0.floor ≤ n / 2)

  -- a compare and exchange that found another word
  abbrev pub Loses : Me (Option M) (View S C) → ℕ → Me (Option M) (View S C) → Type 0
  Loses m n m' = (m' ≡ (tried n m.0, m.1)) × (m.0.floor ≤ n / 2)

  -- the fetch_add or fetch_sub of a pass that has the machine x in its hands
  abbrev pub releases : (M → List (ℕ × C)) → Step (Option M) → Me (Option M) (View S C) → ℕ → Me (Option M) (View S C) → Type 0
  releases of_entries st m n m' = (x : M) → m.1 ≡ (0, Some x) ∷ [] → m' ≡ (released (of_entries x) m.0, [])

  module _ (of_setting : M → S) (of_entries : M → List (ℕ × C)) where
    -- a compare and exchange that found the word it expected: the pass has the machine in its hands
    abbrev pub Wins : Me (Option M) (View S C) → ℕ → Me (Option M) (View S C) → Type 0
    Wins m n m' = (x : M) × (of_setting x ≡ m.0.setting) × (n ≡ 2 * length (of_entries x)) × Follows (of_entries x) m.0 × (m' ≡ (taken (of_entries x) (tried n m.0), (0, Some x) ∷ m.1))

    -- a compare and exchange of an even word, by a pass that doesn't hold the turn
    abbrev pub claims : Step (Option M) → Me (Option M) (View S C) → ℕ → Me (Option M) (View S C) → Type 0
    claims st m n m' = (m.0.holds ≡ false) × MatchBool (n == st.first) (Wins m n m') (Loses m n m')

-- a pass between two calls: it holds nothing, and knows of its own entries what it has seen of them
pub record Rests {M S C : Type 0} (me : Me (Option M) (View S C)) : Type 0 where
  pub role : me.0.role ≡ AsPass
  pub idle : me.0.holds ≡ false
  pub hand : me.1 ≡ []
  pub own : changes_of me.0.number me.0.seen ≡ me.0.own
  pub floor : length me.0.seen ≤ me.0.floor

-- a pass that holds the turn, with the machine x in its hands, which goes on from what the pass has seen
pub record Works {M S C : Type 0} (of_setting : M → S) (of_entries : M → List (ℕ × C)) (me : Me (Option M) (View S C)) (x : M) : Type 0 where
  pub role : me.0.role ≡ AsPass
  pub holds : me.0.holds ≡ true
  pub hand : me.1 ≡ (0, Some x) ∷ []
  pub setting : of_setting x ≡ me.0.setting
  pub base : me.0.base ≡ of_entries x
  pub seen : IsPrefix me.0.seen (of_entries x)
  pub own : changes_of me.0.number (of_entries x) ≡ me.0.own
  pub floor : me.0.floor ≡ length (of_entries x)

-- the steps between have changed at most the numbers of looks and tries, the words that they read, and a floor that only rises
pub record Waited {S C : Type 0} (v w : View S C) : Type 0 where
  pub setting : w.setting ≡ v.setting
  pub number : w.number ≡ v.number
  pub own : w.own ≡ v.own
  pub seen : w.seen ≡ v.seen
  pub floor : v.floor ≤ w.floor
