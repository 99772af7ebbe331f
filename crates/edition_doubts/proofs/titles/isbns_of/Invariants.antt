use Rattle.std.proofs.Common.{◌≡◌, map, take}
use Rattle.edition_doubts.specs.Comparing.{told}
use Rattle.edition_doubts.proofs.titles.isbns_of.Given as goal

abbrev pub invariant-loop-rec : goal.invariant-loop-rec
invariant-loop-rec l = l.lists.items ≡ told (map (λ r. r.features.isbns) (take l.rec-index l.records))
