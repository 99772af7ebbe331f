use Rattle.std.proofs.Common.{◌≡◌, take}
use Rattle.gathered_catalogue.proofs.standing.standing_of.Given as goal

-- the turns so far were applied
abbrev pub invariant-loop-entry : goal.invariant-loop-entry
invariant-loop-entry g l = (l.catalogue.history ≡ take l.entry-index l.history) × (l.catalogue.names ≡ l.names)
