use Rattle.std.proofs.Common.{◌≡◌, take}
use Rattle.std.specs.List.{flat_map}
use Rattle.edition_doubts.specs.Sets.{set_isbns_of}
use Rattle.edition_doubts.proofs.sets.set_isbns.Given as goal

abbrev pub invariant-loop-content : goal.invariant-loop-content
invariant-loop-content l = l.isbns.items ≡ flat_map set_isbns_of (take l.content-index l.contents)
