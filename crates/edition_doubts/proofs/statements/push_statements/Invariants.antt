use Rattle.std.proofs.Common.{◌≡◌, ◌++◌, take}
use Rattle.std.specs.Prelude.{codes}
use Rattle.marc_parts.specs.Parts.{fields_under}
use Rattle.edition_doubts.proofs.statements.push_statements.Given as goal

abbrev pub invariant-loop-field : goal.invariant-loop-field
invariant-loop-field l = l.statements.items ≡ l.initial.statements.items ++ fields_under (codes "250") (take l.field-index l.field-items)
