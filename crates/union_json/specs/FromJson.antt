-- What `fromjson` makes of a file of lines.
use Rattle.std.specs.Prelude.{◌≡◌, ℕ, List, [], ◌∷◌, ◌++◌, length, codes}
use Rattle.std.specs.List.{AllZip}
use Rattle.union_json.specs.Counts.{AreCounted, refused, read, written, frames_of}
use Rattle.union_json.specs.Lines.{raw_lines}
use Rattle.union_json.specs.Outcomes.{Ended, IsOutcome}
use Rattle.union_json.specs.declared.outcome.RefusedLine.{RefusedLine}
use Rattle.union_json.specs.Texts.{Making, making_of, count_line, refused_lines}
use Rattle.union_json.specs.declared.findings.Findings.{Findings}
use Rattle.union_json.specs.declared.made.Made.{Made}
use Rattle.union_words.specs.declared.status.Status.{Status}
use Rattle.union_words.specs.declared.status.Status.TheVariants.{Done, DoneWithRefusals}

-- a line for each refused line, and one of counts; empty lines are not counted
abbrev pub from_json_notes : List ℕ → List Ended → List ℕ
from_json_notes library all =
    refused_lines library (refused all)
    ++ count_line library (codes "lines") (read all) (written all) (length (refused all))

-- how a run ends that came to its end
abbrev pub end_with : List RefusedLine → Status
end_with [] = Done
end_with (line ∷ rest) = DoneWithRefusals

-- the frames of the lines' records, in their order, and the notes
pub record IsFromJson (library bytes : List ℕ) (made : Making) : Type 0 where
  pub all : List Ended
  pub outcomes : AllZip IsOutcome (raw_lines bytes) all
  pub shown : made.shown ≡ frames_of all
  pub noted : made.noted ≡ from_json_notes library all
  pub end : made.end ≡ end_with (refused all)

-- the notes on lines that were counted
abbrev pub AreNotesOn : List ℕ → Findings → List ℕ → Type 0
AreNotesOn library found text = (all : List Ended) → AreCounted all found → text ≡ from_json_notes library all

-- the file was made into frames
abbrev pub MakesFrames : List ℕ → Made → List ℕ → Type 0
MakesFrames library made bytes = IsFromJson library bytes (making_of made)
