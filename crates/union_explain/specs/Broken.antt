-- Which rule the frame breaks that a line of a report tells of, and whether it is the one that the line names.
use Rattle.std.specs.Prelude.{ℕ, Bool, true, false, not, ◌&&◌, ◌==◌, nat_le, List, [], length, Option, Some, None, if◌then◌else◌}
use Rattle.iso2709_frame.specs.declared.cut.Cut.{Cut}
use Rattle.iso2709_frame.specs.declared.cut.Cut.TheVariants.{Whole, TooLong, Truncated}
use Rattle.marc_fields.specs.Rows.{ends_in_only}
use Rattle.marc_fields.specs.RuleNames.{rule_name}
use Rattle.marc_fields.specs.declared.rules.Failure.{Failure}
use Rattle.marc_rules.specs.NineteenRules.{first_rule}
use Rattle.union_words.specs.Words.{same_text}
use Rattle.union_explain.specs.Located.{Located}
use Rattle.union_explain.specs.declared.reported.Reported.{Reported}

-- the text is no longer than a frame may be, and its only record terminator ends it
abbrev pub is_whole : List ℕ → Bool
is_whole bytes = nat_le (length bytes) 99999 && ends_in_only 0x1D bytes

-- how the frame is cut
abbrev pub cut_in : Located → Cut
cut_in frame = (if is_whole frame.bytes then Whole else (if frame.ended then TooLong else Truncated))

-- the same with its bytes where it is whole
abbrev pub cut_at : Located → Cut × List ℕ
cut_at frame = (cut_in frame, (if is_whole frame.bytes then frame.bytes else []))

-- the first rule that the frame breaks, and where
unfoldable pub broken_by : Located → Option Failure
broken_by frame = first_rule (cut_in frame) frame.bytes

-- the frame breaks the rule that the line names, at the place that it names
abbrev pub is_as_told : Reported → Option Failure → Bool
is_as_told told None = false
is_as_told told (Some failure) = same_text (rule_name failure.rule) (rule_name told.rule) && failure.place == told.place

-- the line tells of no frame of this file: there is none of its number, or it does not break that rule at that place
abbrev pub is_astray : Reported → Option Located → Bool
is_astray told None = true
is_astray told (Some frame) = not (is_as_told told (broken_by frame))
