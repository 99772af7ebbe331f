-- none of the editions before the place at hand matches
use Rattle.std.proofs.Common.{◌≡◌, false}
use Rattle.std.specs.List.{AllWithin}
use Rattle.catalogue_editions.specs.Matching.{match}
use Rattle.edition_doubts.proofs.groups.first_match.Given as goal

abbrev pub invariant-loop-i : goal.invariant-loop-i
invariant-loop-i l = AllWithin (λ x. match l.rec x ≡ false) l.editions 0 l.i
