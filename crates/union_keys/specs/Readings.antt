-- What is taken of the frames of libraries' files.
use Rattle.std.specs.Prelude.{◌≡◌, ℕ, suc, List, [], ◌∷◌, ◌++◌, Option, Some, None, decimal, codes}
use Rattle.marc_fields.specs.Spelling.{Spells}
use Rattle.marc_parts.specs.declared.marc_record.Record.{Record}
use Rattle.marc_fields.specs.declared.rules.Failure.{Failure}
use Rattle.marc_rules.specs.NineteenRules.{first_rule}
use Rattle.marc_fields.specs.RuleNames.{rule_name}
use Rattle.union_words.specs.Words.{LibraryFile}
use Rattle.union_keys.specs.Placed.{Placed, placed}
use Rattle.union_keys.specs.Standings.{standing_of, refused_of}
use Rattle.union_keys.specs.declared.refused.Refused.{Refused}
use Rattle.union_keys.specs.declared.standing.Standing.{Standing}

-- the libraries that are preferred, the accepted records so far, the refused frames, and the lines on these
pub record Read : Type 0 where
  pub prefer : List (List ℕ)
  pub standings : List Standing
  pub refused : List Refused
  pub notes : List ℕ

-- nothing read yet
abbrev pub none_read : List (List ℕ) → Read
none_read prefer = record { prefer = prefer; standings = []; refused = []; notes = [] }

-- one more accepted record
abbrev pub with_standing : Read → Standing → Read
with_standing read s =
    record { prefer = read.prefer; standings = read.standings ++ s ∷ []; refused = read.refused; notes = read.notes }

-- one more refused frame, with its line
abbrev pub with_refused : Read → Refused → List ℕ → Read
with_refused read r line =
    record { prefer = read.prefer; standings = read.standings; refused = read.refused ++ r ∷ []; notes = read.notes ++ line }

-- `LIB refused FRAME RULE PLACE`
unfoldable pub refused_line : List ℕ → ℕ → Failure → List ℕ
refused_line library number failure =
    library
    ++ (codes " refused " ++ (decimal number ++ (codes " " ++ (rule_name failure.rule ++ (codes " " ++ (decimal failure.place ++ 0x0A ∷ []))))))

-- a frame that breaks a rule is kept as refused and gets a line, and of one that breaks none the record is taken that it spells
abbrev pub Takes : List ℕ → ℕ → Placed → Option Failure → Read → Read → Type 0
Takes library number frame (Some failure) before after =
    after ≡ with_refused before (refused_of library number frame.first frame.text failure) (refused_line library number failure)
Takes library number frame None before after =
    (r : Record) × Spells frame.bytes r
    × (after ≡ with_standing before (standing_of before.prefer library number frame.first frame.size r))

-- the frames are taken in their order, the first of which has that number
abbrev pub TakesAll : List ℕ → ℕ → List Placed → Read → Read → Type 0
TakesAll library number [] before after = after ≡ before
TakesAll library number (frame ∷ rest) before after =
    (between : Read) × Takes library number frame (first_rule frame.cut frame.bytes) before between
    × TakesAll library (suc number) rest between after

-- the files are read in their order
abbrev pub ReadsFiles : (List ℕ → List ℕ) → List LibraryFile → Read → Read → Type 0
ReadsFiles contents [] before after = after ≡ before
ReadsFiles contents (file ∷ rest) before after =
    (between : Read) × TakesAll file.library 1 (placed (contents file.path)) before between × ReadsFiles contents rest between after
