-- none of the values before the place at hand matches
use Rattle.std.proofs.Common.{◌≡◌, false}
use Rattle.std.specs.List.{AllWithin}
use Rattle.catalogue_editions.specs.Matching.{match}
use Rattle.edition_derivations.proofs.merging.first_match.Given as goal

abbrev pub invariant-loop-i : goal.invariant-loop-i
invariant-loop-i l = AllWithin (λ x. match l.value x ≡ false) l.done 0 l.i
