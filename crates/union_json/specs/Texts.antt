-- What a run makes of a file, and the lines that it notes.
use Rattle.std.specs.Prelude.{ℕ, List, [], ◌∷◌, ◌++◌, codes}
use Rattle.std.specs.List.{flat_map}
use Rattle.union_json.specs.declared.outcome.Reason.{Reason}
use Rattle.union_json.specs.declared.outcome.Reason.TheVariants.{LineTooLong, Json, Shape, FieldTooLong, RecordTooLong, Breaks}
use Rattle.union_json.specs.declared.outcome.RefusedLine.{RefusedLine}
use Rattle.union_json.specs.declared.made.Made.{Made}
use Rattle.library_batches.specs.Reports.{counted}
use Rattle.marc_fields.specs.RuleNames.{rule_name}
use Rattle.union_words.specs.declared.status.Status.{Status}

-- what is to be shown on the output and noted, and how the run ends then
pub record Making : Type 0 where
  pub shown : List ℕ
  pub noted : List ℕ
  pub end : Status

-- what was made, as its value
abbrev pub making_of : Made → Making
making_of made = record { shown = made.shown; noted = made.noted.items; end = made.end }

-- of whatever bytes the first is so, the second is
abbrev pub Whenever : (List ℕ → Type 0) → (List ℕ → Type 0) → Type 0
Whenever First Second = (bytes : List ℕ) → First bytes → Second bytes

-- `LIB WORD F written W refused N`
unfoldable pub count_line : List ℕ → List ℕ → ℕ → ℕ → ℕ → List ℕ
count_line library word all written refused =
    library ++ (counted word all ++ (counted (codes "written") written ++ (counted (codes "refused") refused ++ 0x0A ∷ [])))

-- the name of why a line gives no frame: of a rule its own
abbrev pub reason_name : Reason → List ℕ
reason_name LineTooLong = codes "LineTooLong"
reason_name Json = codes "Json"
reason_name (Shape at) = codes "Shape"
reason_name FieldTooLong = codes "FieldTooLong"
reason_name RecordTooLong = codes "RecordTooLong"
reason_name (Breaks rule place) = rule_name rule

-- where it stands: the field of a wrong form, the place of a rule, and else 0
abbrev pub reason_place : Reason → ℕ
reason_place LineTooLong = 0
reason_place Json = 0
reason_place (Shape at) = at
reason_place FieldTooLong = 0
reason_place RecordTooLong = 0
reason_place (Breaks rule place) = place

-- `LIB refused LINE NAME PLACE`
unfoldable pub refused_line : List ℕ → RefusedLine → List ℕ
refused_line library refused =
    library
    ++ (counted (codes "refused") refused.line
    ++ (counted (reason_name refused.reason) (reason_place refused.reason) ++ 0x0A ∷ []))

-- the lines of a report on refused lines
abbrev pub refused_lines : List ℕ → List RefusedLine → List ℕ
refused_lines library all = flat_map (refused_line library) all
