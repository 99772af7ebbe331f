use Rattle.std.proofs.Common.{◌≡◌, ◌++◌}
use Rattle.std.specs.Cmp.Lexicographic.{pointwise}
use Rattle.std.specs.Prelude.{nat_eq}
use Rattle.std.specs.List.{IsDistinct}
use Rattle.std.specs.Map.{keys_of}
use Rattle.authority_names.proofs.leads.headings_copied.Given as goal

-- what was copied stands before what is still to come, and no heading stands twice
abbrev pub invariant-loop-heading : goal.invariant-loop-heading
invariant-loop-heading l = (l.copy.entries ++ l.heading-iterator ≡ l.headings.entries) × IsDistinct (pointwise nat_eq) (keys_of l.headings.entries)
