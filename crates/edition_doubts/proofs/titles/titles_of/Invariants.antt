use Rattle.std.proofs.Common.{◌≡◌, map, take}
use Rattle.edition_doubts.proofs.titles.titles_of.Given as goal

abbrev pub invariant-loop-rec : goal.invariant-loop-rec
invariant-loop-rec l = l.lists.items ≡ map (λ r. r.features.titles) (take l.rec-index l.records)
