use Rattle.std.proofs.Common.{◌≡◌, take}
use Rattle.edition_doubts.specs.Doubts.{contents_of}
use Rattle.edition_doubts.proofs.doubts.contents_of.Given as goal

abbrev pub invariant-loop-rec : goal.invariant-loop-rec
invariant-loop-rec l = l.contents.items ≡ contents_of (take l.rec-index l.records)
