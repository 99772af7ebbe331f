-- What the fields of a locator mean.
use Rattle.std.specs.Prelude.{ℕ, Bool, List, Option, Some, None, if◌then◌else◌}
use Rattle.union_explain.specs.Located.{Located, located_ahead}
use Rattle.union_explain.specs.Readings.{ahead, Gives, Finds, GoesOn}
use Rattle.union_explain.specs.declared.locator.Locator.TheInside.{Inside}

-- the bytes that were read and not yet looked at, how many were looked at, and the frame that was handed out last
pub record Locating : Type 0 where
  pub unread : List ℕ
  pub at : ℕ
  pub frame : Located

-- the locator as its value
abbrev pub locating_of : Inside → Locating
locating_of locator = record { unread = locator.reader.unread; at = locator.reader.at; frame = locator.frame }

-- the frames that a locator has ahead, of a source that has so much left
abbrev pub frames_ahead : Locating → Option (List ℕ) → Option (List Located)
frames_ahead locator left = located_ahead locator.at (ahead locator.unread left)

-- the frame that was handed out, where one was
abbrev pub handed_frame : Locating → Bool → Option Located
handed_frame locator some = (if some then Some locator.frame else None)

-- the next frame is handed out: of a locator and what its source has left, before and after
abbrev pub HandsNext : Locating → Option (List ℕ) → Locating → Option (List ℕ) → Bool → Type 0
HandsNext old before new after some = Gives (frames_ahead old before) (frames_ahead new after) (handed_frame new some)

-- the frame after `count` others is handed out
abbrev pub HandsAfter : ℕ → Locating → Option (List ℕ) → Locating → Option (List ℕ) → Bool → Type 0
HandsAfter count old before new after some = Finds count (frames_ahead old before) (frames_ahead new after) (handed_frame new some)

-- no byte is passed over
abbrev pub LocatorGoesOn : Locating → Option (List ℕ) → Locating → Option (List ℕ) → Type 0
LocatorGoesOn old before new after = GoesOn old.at (ahead old.unread before) new.at (ahead new.unread after)
