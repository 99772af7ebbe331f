use Rattle.std.proofs.Common.{◌≡◌, ◌++◌, take}
use Rattle.catalogue_editions.proofs.shared_part.push_owners.Given as goal

-- the owners so far follow what was there
abbrev pub invariant-loop-content : goal.invariant-loop-content
invariant-loop-content l = l.all.items ≡ l.initial.all.items ++ take l.content-index l.contents
