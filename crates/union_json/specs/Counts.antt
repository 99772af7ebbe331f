-- What came of the lines of a text, counted.
use Rattle.std.specs.Prelude.{◌≡◌, ℕ, suc, Bool, true, false, List, [], ◌∷◌, ◌++◌, length, count_by}
use Rattle.std.specs.List.{flat_map, AllZip}
use Rattle.union_json.specs.Lines.{raw_lines}
use Rattle.union_json.specs.Outcomes.{Ended, IsOutcome}
use Rattle.union_json.specs.declared.findings.Findings.{Findings}
use Rattle.union_json.specs.declared.outcome.Outcome.{Outcome}
use Rattle.union_json.specs.declared.outcome.Outcome.TheVariants.{Skipped, Written, Refused}
use Rattle.union_json.specs.declared.outcome.RefusedLine.{RefusedLine}

-- a line that is refused, under its number
abbrev pub refusal_at : ℕ → Outcome → List RefusedLine
refusal_at line Skipped = []
refusal_at line Written = []
refusal_at line (Refused reason) = record { line = line; reason = reason } ∷ []

-- the refused ones of lines that are numbered from that number on
abbrev pub refused_from : ℕ → List Ended → List RefusedLine
refused_from line [] = []
refused_from line (ended ∷ rest) = refusal_at line ended.0 ++ refused_from (suc line) rest

-- the refused ones of a text's lines, which are numbered from 1
abbrev pub refused : List Ended → List RefusedLine
refused all = refused_from 1 all

-- the line is not empty
abbrev pub is_read : Outcome → Bool
is_read Skipped = false
is_read Written = true
is_read (Refused reason) = true

-- a record was written for the line
abbrev pub is_written : Outcome → Bool
is_written Skipped = false
is_written Written = true
is_written (Refused reason) = false

-- how many of the lines were read
abbrev pub read : List Ended → ℕ
read all = count_by (λ ended. is_read ended.0) all

-- how many records were written
abbrev pub written : List Ended → ℕ
written all = count_by (λ ended. is_written ended.0) all

-- the frames, one after the other
abbrev pub frames_of : List Ended → List ℕ
frames_of all = flat_map (λ ended. ended.1) all

-- these lines were counted, and no others
pub record AreCounted (all : List Ended) (found : Findings) : Type 0 where
  pub lines : found.lines ≡ length all
  pub read : found.read ≡ read all
  pub written : found.written ≡ written all
  pub refused : found.refused.items ≡ refused all
  pub frames : found.frames ≡ frames_of all

-- the next line was counted, whichever were counted before it
abbrev pub Counts : Findings → Findings → Ended → Type 0
Counts old new ended = (all : List Ended) → AreCounted all old → AreCounted (all ++ ended ∷ []) new

-- what came of the lines of a text
pub record IsConverted (found : Findings) (text : List ℕ) : Type 0 where
  pub all : List Ended
  pub outcomes : AllZip IsOutcome (raw_lines text) all
  pub counted : AreCounted all found
