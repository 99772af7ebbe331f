use Rattle.std.proofs.Common.{take}
use Rattle.marc_fields.specs.Spelling.{AreEntriesOf}
use Rattle.marc_fields.proofs.fields.read_fields.Given as goal

-- the fields so far lie at their entries
abbrev pub invariant-loop-entry : goal.invariant-loop-entry
invariant-loop-entry l = AreEntriesOf l.bytes (take l.entry-index l.entries) l.fields.items
