-- The lines of a report that tell of refused records.
use Rattle.std.specs.Prelude.{ℕ, ◌-◌, ◌^◌, ◌<◌, ◌&&◌, nat_lt, Bool, List, [], ◌∷◌, Option, Some, None, if◌then◌else◌, codes}
use Rattle.union_base.specs.Blanks.{first_word, rest_of}
use Rattle.marc_fields.specs.declared.rules.Rule.{Rule}
use Rattle.union_words.specs.Numbers.{number_within}
use Rattle.union_words.specs.Words.{same_text}
use Rattle.union_explain.specs.Rules.{rule_named}
use Rattle.union_explain.specs.declared.reported.Reported.{Reported}

-- all three, or nothing
abbrev pub all_told : Option ℕ → Option Rule → Option ℕ → Option Reported
all_told None rule place = None
all_told (Some number) None place = None
all_told (Some number) (Some rule) None = None
all_told (Some number) (Some rule) (Some place) = Some (record { number = number; rule = rule; place = place })

-- `FRAME RULE PLACE`
abbrev pub told_by : List ℕ → Option Reported
told_by text =
    all_told (number_within 1 (2 ^ 64 - 1) (first_word text)) (rule_named (first_word (rest_of text)))
    (number_within 0 99999 (rest_of (rest_of text)))

-- the line begins with `LIB refused`
abbrev pub is_refused_line : List ℕ → List ℕ → Bool
is_refused_line library line = same_text (first_word line) library && same_text (first_word (rest_of line)) (codes "refused")

-- `LIB refused FRAME RULE PLACE`
abbrev pub refused_by : List ℕ → List ℕ → Option Reported
refused_by library line =
    (if is_refused_line library line then told_by (rest_of (rest_of line)) else None)

-- those whose number is above that of the one before
abbrev pub rising : ℕ → List Reported → List Reported
rising last [] = []
rising last (told ∷ rest) = (if nat_lt last told.number then told ∷ rising told.number rest else rising last rest)

-- the numbers rise, from above this one
abbrev pub IsRising : ℕ → List Reported → Type 0
IsRising last [] = Unit {0}
IsRising last (told ∷ rest) = (last < told.number) × IsRising told.number rest
