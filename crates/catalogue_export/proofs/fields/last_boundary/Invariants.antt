use Rattle.std.proofs.Common.{◌≡◌, ◌≤◌}
use Rattle.catalogue_export.specs.Exported.{last_boundary}
use Rattle.catalogue_export.proofs.fields.last_boundary.Given as goal

abbrev pub invariant-loop-at : goal.invariant-loop-at
invariant-loop-at l = (last_boundary l.fn.text l.fn.place ≡ last_boundary l.fn.text l.at) × (l.at ≤ l.fn.place)

abbrev pub decreases-loop-at : goal.decreases-loop-at
decreases-loop-at l = l.at
