use Rattle.std.proofs.Common.{◌≡◌, take}
use Rattle.catalogue_editions.specs.Borrowed.{contents_of}
use Rattle.catalogue_editions.specs.Joined.{all_in}
use Rattle.catalogue_editions.proofs.shared_part.each_of.Given as goal

-- the contents so far are those of the parts so far
abbrev pub invariant-loop-part : goal.invariant-loop-part
invariant-loop-part l = contents_of l.each.items ≡ all_in (take l.part-index l.parts)
