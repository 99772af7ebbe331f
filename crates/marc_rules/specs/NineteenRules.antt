-- The nineteen rules on a frame, in their order, and which fails first (ISO 2709; MARC 21; the rules, their order and their
-- places are this project's own). Each rule is a row of the definitions that are named here:
--
--  1 Truncated      2 TooLong                                       how the frame was cut
--  3 TooShort       4 LengthDigits   5 LengthDiffers
--  6 BaseAddress    7 LeaderCounts                                  head_failure
--  8 EntryDigits    9 Tag                                           directory_failure
-- 10 Tiling                                                         tiling_failure
-- 11 Status        12 Coding        13 NotUtf8                      content_failure
-- 14 ControlShape  15 DataShape                                     shape_failure
-- 16 ControlNumber 17 Repeated      18 Fixed008      19 Title245    number_failure
use Rattle.std.specs.Prelude.{ℕ, List, map, slice_index, Option, Some}
use Rattle.iso2709_frame.specs.declared.cut.Cut.{Cut}
use Rattle.iso2709_frame.specs.declared.cut.Cut.TheVariants.{Whole, TooLong, Truncated}
use Rattle.marc_leader.specs.declared.entry.Entry.{Entry}
use Rattle.marc_fields.specs.Rows.{or_then}
use Rattle.marc_fields.specs.Rules.{head_failure, directory_failure, tiling_failure, shape_failure, entry_in, texts_of, data_in}
use Rattle.marc_fields.specs.declared.rules.Failure.{Failure}
use Rattle.marc_fields.specs.declared.rules.Rule.TheVariants.{Truncated as TruncatedRule, TooLong as TooLongRule}
use Rattle.marc_rules.specs.Contents.{content_failure}
use Rattle.marc_rules.specs.RequiredFields.{number_failure}

-- the status of the frame's record (leader/05)
abbrev pub status_of : List ℕ → ℕ
status_of frame = slice_index frame 5

-- the coding of the frame's texts (leader/09)
abbrev pub coding_of : List ℕ → ℕ
coding_of frame = slice_index frame 9

-- the rules on the data of entries
abbrev pub fields_failure : ℕ → ℕ → List ℕ → List Entry → Option Failure
fields_failure status coding bytes entries =
    or_then (tiling_failure bytes entries)
    (or_then (content_failure status coding bytes entries)
    (or_then (shape_failure bytes entries) (number_failure status bytes entries)))

-- the rules on the directory and the data
abbrev pub record_failure : ℕ → ℕ → List (List ℕ) → List ℕ → Option Failure
record_failure status coding texts bytes = or_then (directory_failure texts) (fields_failure status coding bytes (map entry_in texts))

-- the first of the rules that a whole frame breaks
unfoldable pub whole_failure : List ℕ → Option Failure
whole_failure frame = or_then (head_failure frame) (record_failure (status_of frame) (coding_of frame) (texts_of frame) (data_in frame))

-- the first rule that the frame breaks, and where
abbrev pub first_rule : Cut → List ℕ → Option Failure
first_rule Truncated frame = Some (record { rule = TruncatedRule; place = 0 })
first_rule TooLong frame = Some (record { rule = TooLongRule; place = 0 })
first_rule Whole frame = whole_failure frame
