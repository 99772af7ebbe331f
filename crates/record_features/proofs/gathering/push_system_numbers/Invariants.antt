use Rattle.std.proofs.Common.{◌≡◌, ◌++◌}
use Rattle.std.specs.List.{flat_map}
use Rattle.record_features.specs.Gathering.{system_number_in}
use Rattle.record_features.proofs.gathering.push_system_numbers.Given as goal

-- what was gathered, and what the subfields that are left give
abbrev pub invariant-loop-subfield : goal.invariant-loop-subfield
invariant-loop-subfield l = l.control.items ++ flat_map system_number_in l.subfield-iterator ≡ l.initial.control.items ++ flat_map system_number_in l.fn.subfields
