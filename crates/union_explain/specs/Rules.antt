-- What is said of a rule, in the texts of specs/Texts.antt.
use Rattle.std.specs.Prelude.{ℕ, Bool, true, false, List, Option, Some, None, if◌then◌else◌, ◌==◌, codes}
use Rattle.marc_fields.specs.declared.rules.Rule.{Rule}
use Rattle.marc_fields.specs.declared.rules.Rule.TheVariants.{Truncated, TooLong, TooShort, LengthDigits, LengthDiffers, BaseAddress, LeaderCounts, EntryDigits, Tag, Tiling, Status, Coding, NotUtf8, ControlShape, DataShape, ControlNumber, Repeated, Fixed008, Title245}
use Rattle.union_words.specs.Words.{same_text}
use Rattle.union_explain.specs.Texts as texts

-- the rule of that name
abbrev pub rule_named : List ℕ → Option Rule
rule_named text =
    (if same_text text (codes "Truncated") then Some Truncated else
    (if same_text text (codes "TooLong") then Some TooLong else
    (if same_text text (codes "TooShort") then Some TooShort else
    (if same_text text (codes "LengthDigits") then Some LengthDigits else
    (if same_text text (codes "LengthDiffers") then Some LengthDiffers else
    (if same_text text (codes "BaseAddress") then Some BaseAddress else
    (if same_text text (codes "LeaderCounts") then Some LeaderCounts else
    (if same_text text (codes "EntryDigits") then Some EntryDigits else
    (if same_text text (codes "Tag") then Some Tag else
    (if same_text text (codes "Tiling") then Some Tiling else
    (if same_text text (codes "Status") then Some Status else
    (if same_text text (codes "Coding") then Some Coding else
    (if same_text text (codes "NotUtf8") then Some NotUtf8 else
    (if same_text text (codes "ControlShape") then Some ControlShape else
    (if same_text text (codes "DataShape") then Some DataShape else
    (if same_text text (codes "ControlNumber") then Some ControlNumber else
    (if same_text text (codes "Repeated") then Some Repeated else
    (if same_text text (codes "Fixed008") then Some Fixed008 else
    (if same_text text (codes "Title245") then Some Title245 else None)))))))))))))))))))

-- the place of a refusal by that rule is the number of an entry, where it is not 0
abbrev pub points_at_entry : Rule → Bool
points_at_entry Truncated = false
points_at_entry TooLong = false
points_at_entry TooShort = false
points_at_entry LengthDigits = false
points_at_entry LengthDiffers = false
points_at_entry BaseAddress = false
points_at_entry LeaderCounts = false
points_at_entry EntryDigits = true
points_at_entry Tag = true
points_at_entry Tiling = true
points_at_entry Status = false
points_at_entry Coding = true
points_at_entry NotUtf8 = true
points_at_entry ControlShape = true
points_at_entry DataShape = true
points_at_entry ControlNumber = true
points_at_entry Repeated = true
points_at_entry Fixed008 = true
points_at_entry Title245 = true

-- what the rule finds, by the place: at 0 it misses something in four of the rules
abbrev pub meaning_of : Rule → ℕ → List ℕ
meaning_of Truncated place = texts.truncated
meaning_of TooLong place = texts.too_long
meaning_of TooShort place = texts.too_short
meaning_of LengthDigits place = texts.length_digits
meaning_of LengthDiffers place = texts.length_differs
meaning_of BaseAddress place = texts.base_address
meaning_of LeaderCounts place = texts.leader_counts
meaning_of EntryDigits place = texts.entry_digits
meaning_of Tag place = texts.tag
meaning_of Tiling place = texts.tiling
meaning_of Status place = texts.status
meaning_of Coding place = (if place == 0 then texts.unknown_coding else texts.coded)
meaning_of NotUtf8 place = texts.not_utf8
meaning_of ControlShape place = texts.control_shape
meaning_of DataShape place = texts.data_shape
meaning_of ControlNumber place = (if place == 0 then texts.no_control_number else texts.bad_control_number)
meaning_of Repeated place = texts.repeated
meaning_of Fixed008 place = (if place == 0 then texts.no_fixed_008 else texts.bad_fixed_008)
meaning_of Title245 place = (if place == 0 then texts.no_title else texts.second_title)

-- what to do
abbrev pub advice_of : Rule → ℕ → List ℕ
advice_of Truncated place = texts.truncated_advice
advice_of TooLong place = texts.too_long_advice
advice_of TooShort place = texts.too_short_advice
advice_of LengthDigits place = texts.length_digits_advice
advice_of LengthDiffers place = texts.length_differs_advice
advice_of BaseAddress place = texts.base_address_advice
advice_of LeaderCounts place = texts.leader_counts_advice
advice_of EntryDigits place = texts.entry_digits_advice
advice_of Tag place = texts.tag_advice
advice_of Tiling place = texts.tiling_advice
advice_of Status place = texts.status_advice
advice_of Coding place = (if place == 0 then texts.unknown_coding_advice else texts.coded_advice)
advice_of NotUtf8 place = texts.not_utf8_advice
advice_of ControlShape place = texts.control_shape_advice
advice_of DataShape place = texts.data_shape_advice
advice_of ControlNumber place = (if place == 0 then texts.no_control_number_advice else texts.bad_control_number_advice)
advice_of Repeated place = texts.repeated_advice
advice_of Fixed008 place = (if place == 0 then texts.no_fixed_008_advice else texts.bad_fixed_008_advice)
advice_of Title245 place = (if place == 0 then texts.no_title_advice else texts.second_title_advice)
