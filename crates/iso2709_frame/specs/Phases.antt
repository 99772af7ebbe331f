-- What the fields of a cutter mean.
use Rattle.std.specs.Prelude.{◌≡◌, ℕ, ◌≤◌, Bool, true, false, List, [], Option, Some, None, vec_len, vec_capacity}
use Rattle.std.specs.List.{list_any}
use Rattle.iso2709_frame.specs.Cutting.{Cutting, too_long}
use Rattle.iso2709_frame.specs.Frames.{is_terminator, skip_breaks}
use Rattle.iso2709_frame.specs.declared.cut.Cut.{Cut}
use Rattle.iso2709_frame.specs.declared.cut.Cut.TheVariants.{Whole, TooLong}
use Rattle.iso2709_frame.specs.declared.cutter.Cutter.TheInside.{Inside}
use Rattle.iso2709_frame.specs.declared.cutter.Phase.{Phase}
use Rattle.iso2709_frame.specs.declared.cutter.Phase.TheVariants.{Gathering, Overfull, Ended}

-- the bytes that wait for the end of their frame
abbrev pub pending_of : Phase → List ℕ → List ℕ
pending_of Gathering held = held
pending_of Overfull held = too_long
pending_of Ended held = []

-- the frame that is lent
abbrev pub frame_of : Phase → List ℕ → List ℕ
frame_of Gathering held = []
frame_of Overfull held = []
frame_of Ended held = held

-- what the fields mean
abbrev pub cutting_of : Inside → Cutting
cutting_of c = record { pending = pending_of c.phase c.held.items; frame = frame_of c.phase c.held.items }

-- the bytes held of an unfinished frame have no terminator, and no CR or LF at their beginning
abbrev pub IsGathered : Phase → List ℕ → Type 0
IsGathered Gathering held = (list_any is_terminator held ≡ false) × (skip_breaks held ≡ held)
IsGathered Overfull held = held ≡ []
IsGathered Ended held = Unit {0}

-- what the fields keep: room for the largest frame, and what is held
pub record IsReady (c : Inside) : Type 0 where
  pub room : 99999 ≤ vec_capacity c.held
  pub size : vec_len c.held ≤ 99999
  pub gathered : IsGathered c.phase c.held.items

-- what comes of a part: how it leaves what is held, and the cut where it ends its frame
abbrev pub settled_of : Bool → Bool → Phase × Option Cut
settled_of false false = (Gathering, None)
settled_of true false = (Overfull, None)
settled_of false true = (Ended, Some Whole)
settled_of true true = (Gathering, Some TooLong)
