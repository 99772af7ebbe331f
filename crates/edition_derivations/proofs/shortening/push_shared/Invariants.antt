use Rattle.std.proofs.Common.{◌≡◌, ◌++◌, take}
use Rattle.edition_derivations.proofs.shortening.push_shared.Given as goal

abbrev pub invariant-loop-rec : goal.invariant-loop-rec
invariant-loop-rec l = l.into.items ≡ l.initial.into.items ++ take l.rec-index l.records
