-- What comes of a line: nothing of an empty one, and else the frame of the record that its value stands for, or why there is none.
use Rattle.std.specs.Prelude.{◌≡◌, ◌≢◌, ℕ, List, [], Option, None, Some, IsSomeAnd, MatchOption}
use Rattle.iso2709_frame.specs.declared.cut.Cut.TheVariants.{Whole}
use Rattle.marc_fields.specs.Appending.{too_long}
use Rattle.marc_fields.specs.Spelling.{spelling}
use Rattle.marc_fields.specs.declared.encoding.EncodeRefusal.TheVariants.{FieldTooLong as LongField, RecordTooLong as LongRecord}
use Rattle.marc_parts.specs.declared.marc_record.Record.{Record}
use Rattle.marc_json.specs.Shapes.{value_in, StandsFor, IsCause}
use Rattle.marc_json.specs.declared.reading.JsonRefusal.TheVariants.{Json as NoJson, Shape as NoShape}
use Rattle.marc_rules.specs.NineteenRules.{first_rule}
use Rattle.union_json.specs.Lines.{line_within}
use Rattle.union_json.specs.declared.outcome.Outcome.{Outcome}
use Rattle.union_json.specs.declared.outcome.Outcome.TheVariants.{Skipped, Written, Refused}
use Rattle.union_json.specs.declared.outcome.Reason.{Reason}
use Rattle.union_json.specs.declared.outcome.Reason.TheVariants.{LineTooLong, Json, Shape, FieldTooLong, RecordTooLong, Breaks}

-- the line's value stands for the record
abbrev pub IsRecordOf : List ℕ → Record → Type 0
IsRecordOf line r = IsSomeAnd (value_in line) (λ value. StandsFor value r)

-- why a line of no more bytes than a line may have gives no frame
abbrev pub IsReason : List ℕ → Reason → Type 0
IsReason line LineTooLong = ⊥
IsReason line Json = IsCause NoJson (value_in line)
IsReason line (Shape at) = IsCause (NoShape at) (value_in line)
IsReason line FieldTooLong = (r : Record) × IsRecordOf line r × (too_long r ≡ Some LongField)
IsReason line RecordTooLong = (r : Record) × IsRecordOf line r × (too_long r ≡ Some LongRecord)
IsReason line (Breaks rule place) =
    (r : Record) × IsRecordOf line r × (too_long r ≡ None) × (first_rule Whole (spelling r) ≡ Some (record { rule = rule; place = place }))

-- what comes of such a line, and the frame that is written of it: none where it is empty or refused
abbrev pub IsOutcomeWithin : List ℕ → Outcome → List ℕ → Type 0
IsOutcomeWithin line Skipped frame = (line ≡ []) × (frame ≡ [])
IsOutcomeWithin line Written frame =
    (r : Record) × IsRecordOf line r × (too_long r ≡ None) × (first_rule Whole (spelling r) ≡ None) × (frame ≡ spelling r)
IsOutcomeWithin line (Refused reason) frame = (line ≢ []) × IsReason line reason × (frame ≡ [])

-- what comes of each line that is not empty and stands for the record
abbrev pub IsOutcomeOf : Record → Outcome → List ℕ → Type 0
IsOutcomeOf r outcome frame = (line : List ℕ) → line ≢ [] → IsRecordOf line r → IsOutcomeWithin line outcome frame

-- an outcome, and the frame that is written
abbrev pub Ended : Type 0
Ended = Outcome × List ℕ

-- what comes of a line as it stands in its text
abbrev pub IsOutcome : List ℕ → Ended → Type 0
IsOutcome raw ended =
    MatchOption (line_within raw) ((ended.0 ≡ Refused LineTooLong) × (ended.1 ≡ [])) (λ line. IsOutcomeWithin line ended.0 ended.1)

-- so ends each line that is this one without the carriage return at its end; None stands for one that is too long
abbrev pub EndsAs : Option (List ℕ) → Ended → Type 0
EndsAs line ended = (raw : List ℕ) → line ≡ line_within raw → IsOutcome raw ended
