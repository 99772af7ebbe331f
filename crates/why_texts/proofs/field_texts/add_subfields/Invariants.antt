use Rattle.std.proofs.Common.{◌≡◌, ◌++◌}
use Rattle.std.specs.List.{flat_map}
use Rattle.why_texts.specs.FieldTexts.{subfield_text}
use Rattle.why_texts.proofs.field_texts.add_subfields.Given as goal

-- what was added, and what the subfields that are left add
abbrev pub invariant-loop-subfield : goal.invariant-loop-subfield
invariant-loop-subfield l = l.text.items ++ flat_map subfield_text l.subfield-iterator ≡ l.initial.text.items ++ flat_map subfield_text l.fn.subfields
