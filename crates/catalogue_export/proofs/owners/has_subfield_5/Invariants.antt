use Rattle.std.proofs.Common.{◌≡◌}
use Rattle.catalogue_export.specs.Owners.{has_subfield_5}
use Rattle.catalogue_export.proofs.owners.has_subfield_5.Given as goal

-- the subfields that are left decide
abbrev pub invariant-loop-subfield : goal.invariant-loop-subfield
invariant-loop-subfield l = has_subfield_5 l.fn.subfields ≡ has_subfield_5 l.subfield-iterator
