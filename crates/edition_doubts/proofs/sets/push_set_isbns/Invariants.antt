use Rattle.std.proofs.Common.{◌≡◌, ◌++◌, take}
use Rattle.std.specs.List.{flat_map}
use Rattle.edition_doubts.specs.Sets.{set_isbns_in}
use Rattle.edition_doubts.proofs.sets.push_set_isbns.Given as goal

abbrev pub invariant-loop-field : goal.invariant-loop-field
invariant-loop-field l = l.isbns.items ≡ l.initial.isbns.items ++ flat_map set_isbns_in (take l.field-index l.field-items)
