use Rattle.field_merge.specs.Parts.{ArePartsOf}
use Rattle.field_merge.proofs.parts.parts_of.Given as goal

-- the parts of the fields so far
abbrev pub invariant-loop-field : goal.invariant-loop-field
invariant-loop-field l = ArePartsOf l.rank l.yielded l.parts
