use Rattle.std.proofs.Common.{◌≡◌, ◌++◌}
use Rattle.std.specs.List.{flat_map}
use Rattle.record_features.specs.Gathering.{issn_in}
use Rattle.record_features.proofs.gathering.push_issns.Given as goal

-- what was gathered, and what the subfields that are left give
abbrev pub invariant-loop-subfield : goal.invariant-loop-subfield
invariant-loop-subfield l = l.issns.items ++ flat_map issn_in l.subfield-iterator ≡ l.initial.issns.items ++ flat_map issn_in l.fn.subfields
