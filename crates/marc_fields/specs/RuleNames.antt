-- The names of the rules, as every report writes them (docs/FORMATS.md).
use Rattle.std.specs.Prelude.{ℕ, List, codes}
use Rattle.marc_fields.specs.declared.rules.Rule.{Rule}
use Rattle.marc_fields.specs.declared.rules.Rule.TheVariants.{Truncated, TooLong, TooShort, LengthDigits, LengthDiffers, BaseAddress, LeaderCounts, EntryDigits, Tag, Tiling, Status, Coding, NotUtf8, ControlShape, DataShape, ControlNumber, Repeated, Fixed008, Title245}

-- the rule's name
abbrev pub rule_name : Rule → List ℕ
rule_name Truncated = codes "Truncated"
rule_name TooLong = codes "TooLong"
rule_name TooShort = codes "TooShort"
rule_name LengthDigits = codes "LengthDigits"
rule_name LengthDiffers = codes "LengthDiffers"
rule_name BaseAddress = codes "BaseAddress"
rule_name LeaderCounts = codes "LeaderCounts"
rule_name EntryDigits = codes "EntryDigits"
rule_name Tag = codes "Tag"
rule_name Tiling = codes "Tiling"
rule_name Status = codes "Status"
rule_name Coding = codes "Coding"
rule_name NotUtf8 = codes "NotUtf8"
rule_name ControlShape = codes "ControlShape"
rule_name DataShape = codes "DataShape"
rule_name ControlNumber = codes "ControlNumber"
rule_name Repeated = codes "Repeated"
rule_name Fixed008 = codes "Fixed008"
rule_name Title245 = codes "Title245"
