use Rattle.std.proofs.Common.{◌≡◌, ◌++◌}
use Rattle.std.specs.List.{flat_map}
use Rattle.record_features.specs.Gathering.{isbn_in}
use Rattle.edition_doubts.proofs.sets.push_isbns.Given as goal

-- what was gathered, and what the subfields that are left give
abbrev pub invariant-loop-subfield : goal.invariant-loop-subfield
invariant-loop-subfield l = l.isbns.items ++ flat_map isbn_in l.subfield-iterator ≡ l.initial.isbns.items ++ flat_map isbn_in l.fn.subfields
