-- What a count of frames says.
use Rattle.std.specs.Prelude.{◌≡◌, ℕ, List, [], ◌∷◌, ◌++◌, length, None, Some}
use Rattle.iso2709_frame.specs.Frames.{frames}
use Rattle.library_batches.specs.Refused.{refused}
use Rattle.library_batches.specs.Streams.{Frame, failure_of}
use Rattle.library_batches.specs.Reports.{check_line, check_text, loads, withdrawals}
use Rattle.marc_fields.specs.declared.rules.Rule.{Rule}
use Rattle.marc_rules.specs.NineteenRules.{status_of}
use Rattle.union_watch.specs.declared.tally.Tally.{Tally}

-- these frames were counted, and no others
pub record IsTally (all : List Frame) (tally : Tally) : Type 0 where
  pub frames : tally.frames ≡ length all
  pub loads : tally.loads ≡ loads all
  pub withdrawals : tally.withdrawals ≡ withdrawals all
  pub refused : tally.refused.items ≡ refused all

-- the next frame was counted, whichever were counted before it
abbrev pub Counts : Tally → Tally → Frame → Type 0
Counts old new frame = (all : List Frame) → IsTally all old → IsTally (all ++ frame ∷ []) new

-- the frame is accepted, and its record has that status
abbrev pub HasStatus : ℕ → Frame → Type 0
HasStatus status frame = (failure_of frame ≡ None) × (status_of frame.1 ≡ status)

-- the frame breaks the rule there
abbrev pub Breaks : Rule → ℕ → Frame → Type 0
Breaks rule place frame = failure_of frame ≡ Some (record { rule = rule; place = place })

-- the frames of the file were counted
abbrev pub IsTallyOf : Tally → List ℕ → Type 0
IsTallyOf tally bytes = IsTally (frames bytes) tally

-- the line of its counts
abbrev pub tally_line : List ℕ → Tally → List ℕ
tally_line library tally = check_line library tally.frames tally.loads tally.withdrawals (length tally.refused.items)

-- the text of a check that counted so
abbrev pub IsTextOf : List ℕ → Tally → List ℕ → Type 0
IsTextOf library tally text = (all : List Frame) → IsTally all tally → text ≡ check_text library all
