use Rattle.std.proofs.Common.{◌≡◌, filter, take}
use Rattle.catalogue_editions.specs.Matching.{match}
use Rattle.edition_derivations.proofs.merging.members_of.Given as goal

abbrev pub invariant-loop-rec : goal.invariant-loop-rec
invariant-loop-rec l = l.members.items ≡ filter (λ r. match r l.edition) (take l.rec-index l.records)
