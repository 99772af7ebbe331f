use Rattle.std.proofs.Common.{◌≡◌}
use Rattle.std.specs.List.{list_any}
use Rattle.edition_doubts.specs.Sets.{tells_of_set}
use Rattle.edition_doubts.proofs.sets.some_tells.Given as goal

-- the subfields that are left decide
abbrev pub invariant-loop-subfield : goal.invariant-loop-subfield
invariant-loop-subfield l = list_any tells_of_set l.fn.subfields ≡ list_any tells_of_set l.subfield-iterator
