-- What is known of a frame in which no rule fails.
use Rattle.std.specs.Prelude.{◌≡◌, ℕ, ◌-◌, ◌/◌, List, length, take, drop, None}
use Rattle.marc_leader.specs.Codes.{Codes}
use Rattle.marc_leader.specs.declared.entry.Entry.{Entry}
use Rattle.marc_fields.specs.Directories.{AreRead}
use Rattle.marc_fields.specs.Fronts.{IsFront}
use Rattle.marc_fields.specs.Rules.{leader_of_frame, tiling_failure, shape_failure}

-- the directory spells the entries, whose ranges partition the data into fields, each with its shape
pub record AreSound (directory bytes : List ℕ) (count : ℕ) (entries : List Entry) : Type 0 where
  pub read : AreRead directory count entries
  pub tiled : tiling_failure bytes entries ≡ None
  pub shaped : shape_failure bytes entries ≡ None

-- the entries are those of the frame with that base address
abbrev pub AreSoundIn : List ℕ → ℕ → List Entry → Type 0
AreSoundIn frame base entries =
    AreSound (take (base - 25) (drop 24 frame)) (take (length frame - 1 - base) (drop base frame)) ((base - 25) / 12) entries

-- the leader has these codes and this base address, and the entries are those of the frame
pub record IsSound (frame : List ℕ) (codes : Codes) (base : ℕ) (entries : List Entry) : Type 0 where
  pub front : IsFront (leader_of_frame frame) frame codes base
  pub sound : AreSoundIn frame base entries
