use Rattle.std.proofs.Common.{◌≡◌}
use Rattle.std.specs.List.{list_all}
use Rattle.authority_names.specs.Records.{is_plain_subfield}
use Rattle.authority_names.proofs.texts.are_plain_subfields.Given as goal

-- the subfields that are left decide
abbrev pub invariant-loop-subfield : goal.invariant-loop-subfield
invariant-loop-subfield l = list_all is_plain_subfield l.fn.subfields ≡ list_all is_plain_subfield l.subfield-iterator
