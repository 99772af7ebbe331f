use Rattle.std.proofs.Common.{◌≡◌, ◌++◌, take}
use Rattle.catalogue_editions.specs.Borrowed.{contents_of}
use Rattle.catalogue_editions.proofs.shared_part.push_each.Given as goal

-- the contents so far follow what was there
abbrev pub invariant-loop-content : goal.invariant-loop-content
invariant-loop-content l = contents_of l.into.items ≡ contents_of l.initial.into.items ++ take l.content-index l.contents
