use Rattle.std.proofs.Common.{◌≡◌}
use Rattle.std.specs.List.{list_all}
use Rattle.union_base.specs.Fields.{is_subfield}
use Rattle.union_base.proofs.body.have_form.Given as goal

-- the subfields that are left decide
abbrev pub invariant-loop-subfield : goal.invariant-loop-subfield
invariant-loop-subfield l = list_all is_subfield l.fn.subfields ≡ list_all is_subfield l.subfield-iterator
