use Rattle.std.proofs.Common.{◌≡◌, take}
use Rattle.edition_doubts.specs.Groups.{pairs_of, gathered}
use Rattle.edition_doubts.proofs.groups.gathered.Given as goal

abbrev pub invariant-loop-rec : goal.invariant-loop-rec
invariant-loop-rec l = pairs_of l.groups.items ≡ gathered (take l.rec-index l.records) l.editions
