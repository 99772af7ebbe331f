use Rattle.std.proofs.Common.{◌≡◌, take}
use Rattle.std.specs.List.{flat_map}
use Rattle.edition_doubts.specs.Reasons.{statements_of}
use Rattle.edition_doubts.proofs.statements.statements_differ.Given as goal

abbrev pub invariant-loop-content : goal.invariant-loop-content
invariant-loop-content l = l.statements.items ≡ flat_map statements_of (take l.content-index l.contents)
