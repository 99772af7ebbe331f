use Rattle.std.proofs.Common.{◌≡◌, ◌++◌, take}
use Rattle.catalogue_editions.proofs.contents.push_shared.Given as goal

-- the owners so far follow what was there
abbrev pub invariant-loop-part : goal.invariant-loop-part
invariant-loop-part l = l.all.items ≡ l.initial.all.items ++ take l.part-index l.parts
