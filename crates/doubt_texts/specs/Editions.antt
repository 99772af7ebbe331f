-- The editions that deserve a look, one after the other, each with its records.
use Rattle.std.specs.Prelude.{◌≡◌, ℕ, nat_lt, if◌then◌else◌, Bool, List, [], ◌∷◌, ◌++◌, length, codes, find, Option}
use Rattle.std.specs.List.{flat_map}
use Rattle.catalogue_editions.specs.declared.edition.Edition.{Edition}
use Rattle.edition_derivations.specs.Steps.{IsDerivation}
use Rattle.edition_derivations.specs.declared.step.Step.{Step}
use Rattle.edition_doubts.specs.Doubts.{doubts_of}
use Rattle.edition_doubts.specs.DoubtfulSteps.{is_doubtful_step}
use Rattle.edition_doubts.specs.declared.doubts.Doubt.{Doubt}
use Rattle.doubt_texts.specs.Counts.{counts_text}
use Rattle.doubt_texts.specs.Lines.{line_text, row_text}
use Rattle.doubt_texts.specs.declared.form.Form.{Form}
use Rattle.doubt_texts.specs.declared.form.Form.TheVariants.{Lines, Table}

-- the edition is of several records
abbrev pub is_merged : Edition → Bool
is_merged e = nat_lt 1 (length e.content.contributors)

-- the reasons that stand of a merged edition, by its records
abbrev pub told_doubts : Edition → List Edition → List Doubt
told_doubts e members = if is_merged e then doubts_of members else []

-- those of all editions
abbrev pub doubts_in : List (Edition × List Edition) → List Doubt
doubts_in pairs = flat_map (λ p. told_doubts p.0 p.1) pairs

-- an edition with its reasons and a step
abbrev pub told_line : Form → Edition → List Doubt → Option Step → List ℕ
told_line Lines e doubts step = line_text e doubts step
told_line Table e doubts step = row_text e doubts step

-- where a reason stands, the edition was added, with the first step of a derivation from its records that brings together records of
-- which a reason stands
abbrev pub AddsEdition : Form → Edition → List Edition → List Doubt → List ℕ → List ℕ → Type 0
AddsEdition form e members [] before after = after ≡ before
AddsEdition form e members (d ∷ doubts) before after =
    (steps : List Step) × IsDerivation members steps e
    × (after ≡ before ++ told_line form e (d ∷ doubts) (find (is_doubtful_step members) steps))

-- the editions were added, one after the other
abbrev pub AddsEach : Form → List (Edition × List Edition) → List ℕ → List ℕ → Type 0
AddsEach form [] before after = after ≡ before
AddsEach form (p ∷ pairs) before after =
    (between : List ℕ) × AddsEdition form p.0 p.1 (told_doubts p.0 p.1) before between × AddsEach form pairs between after

-- a table begins with the names of its columns
abbrev pub head_text : Form → List ℕ
head_text Lines = []
head_text Table = codes "edition,records,reasons,step\r\n"

-- lines end with how often each reason stands
abbrev pub foot_text : Form → List Doubt → List ℕ
foot_text Lines doubts = counts_text doubts
foot_text Table doubts = []

-- the whole list
abbrev pub IsListing : Form → List (Edition × List Edition) → List ℕ → Type 0
IsListing form pairs text =
    (between : List ℕ) × AddsEach form pairs (head_text form) between × (text ≡ between ++ foot_text form (doubts_in pairs))
