-- Places in a directory, counted from 1, at which a rule on entries fails.
use Rattle.std.specs.Prelude.{◌≡◌, ◌⊎◌, ◌<◌, ℕ, suc, true, false, List, ◌∷◌, ◌++◌, length, Contains}
use Rattle.marc_leader.specs.declared.entry.Entry.{Entry}
use Rattle.marc_fields.specs.Rules.{is_tile}
use Rattle.marc_fields.specs.Spelling.{is_in}

-- the place is the least at which that holds
pub record IsLeast (At : ℕ → Type 0) (place : ℕ) : Type 0 where
  pub here : At place
  pub before : (earlier : ℕ) → earlier < place → At earlier → ⊥

-- the entry stands at that place, after these
pub record StandsAt (entries : List Entry) (place : ℕ) (earlier : List Entry) (e : Entry) : Type 0 where
  pub later : List Entry
  pub parts : entries ≡ earlier ++ e ∷ later
  pub counted : place ≡ suc (length earlier)

-- an offset is in the ranges of the entry and of one of these
pub record SharesOffset (earlier : List Entry) (e : Entry) : Type 0 where
  pub offset : ℕ
  pub own : is_in offset e ≡ true
  pub other : Entry
  pub stands : Contains earlier other
  pub taken : is_in offset other ≡ true

-- the entry at that place has no range of its own: it is no field of the data, or shares an offset with an earlier one
pub record IsUntiled (bytes : List ℕ) (entries : List Entry) (place : ℕ) : Type 0 where
  pub earlier : List Entry
  pub entry : Entry
  pub at : StandsAt entries place earlier entry
  pub amiss : (is_tile bytes entry ≡ false) ⊎ SharesOffset earlier entry

-- each entry has a range of its own, an offset of the data is in none of them, and the place is that after the last entry
pub record IsGap (bytes : List ℕ) (entries : List Entry) (place : ℕ) : Type 0 where
  pub tiled : (each : ℕ) → IsUntiled bytes entries each → ⊥
  pub offset : ℕ
  pub within : offset < length bytes
  pub free : (e : Entry) → Contains entries e → is_in offset e ≡ false
  pub counted : place ≡ suc (length entries)
