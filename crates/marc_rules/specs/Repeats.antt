-- Which field is one too many.
use Rattle.std.specs.Prelude.{◌≡◌, ◌↔◌, ℕ, List, [], Some, Contains}
use Rattle.marc_leader.specs.declared.entry.Entry.{Entry}
use Rattle.marc_fields.specs.Places.{IsLeast, StandsAt}
use Rattle.marc_rules.specs.RequiredFields.{class_of, repeated_from}
use Rattle.marc_rules.specs.declared.required_fields.SingleClass.{SingleClass}

-- the entry at that place is of a class of which a record may have one field, and an earlier entry is of the same class
pub record IsRepeatedAt (entries : List Entry) (place : ℕ) : Type 0 where
  pub earlier : List Entry
  pub entry : Entry
  pub at : StandsAt entries place earlier entry
  pub class : SingleClass
  pub of : class_of entry.tag ≡ Some class
  pub other : Entry
  pub stands : Contains earlier other
  pub same : class_of other.tag ≡ Some class

-- the rule on repeated fields fails at the least such place
abbrev pub RepeatedIsLeast : Type 0
RepeatedIsLeast = (entries : List Entry) (place : ℕ) → (repeated_from [] 1 entries ≡ Some place) ↔ IsLeast (IsRepeatedAt entries) place
