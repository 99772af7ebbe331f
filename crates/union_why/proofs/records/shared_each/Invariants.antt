use Rattle.std.proofs.Common.{◌≡◌, take}
use Rattle.union_why.proofs.records.shared_each.Given as goal

abbrev pub invariant-loop-rec : goal.invariant-loop-rec
invariant-loop-rec l = l.all.items ≡ take l.rec-index l.records
