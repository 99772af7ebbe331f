use Rattle.std.proofs.Common.{◌≡◌, length}
use Rattle.std.specs.Prelude.{find}
use Rattle.edition_sources.specs.GivingFields.{gives_number}
use Rattle.edition_sources.proofs.giving_fields.first_giving.Given as goal

-- the fields that are left decide
abbrev pub invariant-loop-field : goal.invariant-loop-field
invariant-loop-field l = find (gives_number l.wanted) l.fn.fields ≡ find (gives_number l.wanted) l.left

abbrev pub decreases-loop-field : goal.decreases-loop-field
decreases-loop-field l = length l.left
