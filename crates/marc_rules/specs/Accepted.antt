-- Records that keep every rule.
use Rattle.std.specs.Prelude.{◌≡◌, ℕ, List, None}
use Rattle.iso2709_frame.specs.declared.cut.Cut.TheVariants.{Whole}
use Rattle.marc_fields.specs.Spelling.{Spells}
use Rattle.marc_parts.specs.declared.marc_record.Record.{Record}
use Rattle.marc_rules.specs.NineteenRules.{first_rule}

-- some whole frame that breaks no rule spells the record
pub record IsAccepted (r : Record) : Type 0 where
  pub frame : List ℕ
  pub spells : Spells frame r
  pub unbroken : first_rule Whole frame ≡ None
