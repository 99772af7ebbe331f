-- What a converter holds that has taken a prefix of a text.
use Rattle.std.specs.Prelude.{◌≡◌, ℕ, false, List, [], ◌∷◌, ◌++◌}
use Rattle.std.specs.List.{All, AllZip}
use Rattle.union_json.specs.Counts.{AreCounted}
use Rattle.union_json.specs.Kept.{Holds}
use Rattle.union_json.specs.Lines.{is_feed, raw_lines}
use Rattle.union_json.specs.Outcomes.{Ended, IsOutcome}
use Rattle.union_json.specs.declared.converter.Converter.{Converter}

-- the lines that are ended were judged and counted, and the last one, which may go on, is held
pub record HasTaken (text : List ℕ) (converter : Converter) : Type 0 where
  pub done : List (List ℕ)
  pub begun : List ℕ
  pub lines : (more : List ℕ) → raw_lines (text ++ more) ≡ done ++ raw_lines (begun ++ more)
  pub unended : All (λ b. is_feed b ≡ false) begun
  pub held : Holds converter.begun begun
  pub all : List Ended
  pub outcomes : AllZip IsOutcome done all
  pub counted : AreCounted all converter.findings

-- the piece was taken, whatever text was taken before it
abbrev pub Takes : Converter → Converter → List ℕ → Type 0
Takes old new piece = (text : List ℕ) → HasTaken text old → HasTaken (text ++ piece) new

-- a whole text was taken, where nothing was taken before it
abbrev pub TakesWhole : {T : Type 0} → Converter → Converter → T → List ℕ → Type 0
TakesWhole old new done text = HasTaken [] old → HasTaken text new

-- the line that is held was judged, and what came of it was counted
abbrev pub JudgesHeld : Converter → Converter → Type 0
JudgesHeld old new =
    (begun : List ℕ) (all : List Ended) → Holds old.begun begun → AreCounted all old.findings
    → (ended : Ended) × IsOutcome begun ended × AreCounted (all ++ ended ∷ []) new.findings
