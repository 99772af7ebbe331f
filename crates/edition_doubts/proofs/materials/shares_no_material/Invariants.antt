use Rattle.std.proofs.Common.{◌≡◌, map, take}
use Rattle.edition_doubts.specs.Comparing.{told}
use Rattle.edition_doubts.specs.Reasons.{materials_of}
use Rattle.edition_doubts.proofs.materials.shares_no_material.Given as goal

abbrev pub invariant-loop-content : goal.invariant-loop-content
invariant-loop-content l = l.lists.items ≡ told (map (materials_of l.tag) (take l.content-index l.contents))
