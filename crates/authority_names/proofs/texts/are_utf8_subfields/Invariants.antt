use Rattle.std.proofs.Common.{◌≡◌}
use Rattle.std.specs.List.{list_all}
use Rattle.marc_parts.specs.Loads.{is_utf8_subfield}
use Rattle.authority_names.proofs.texts.are_utf8_subfields.Given as goal

-- the subfields that are left decide
abbrev pub invariant-loop-subfield : goal.invariant-loop-subfield
invariant-loop-subfield l = list_all is_utf8_subfield l.fn.subfields ≡ list_all is_utf8_subfield l.subfield-iterator
