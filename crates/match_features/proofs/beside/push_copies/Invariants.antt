use Rattle.std.proofs.Common.{◌≡◌, ◌++◌, take}
use Rattle.match_features.proofs.beside.push_copies.Given as goal

-- the copies so far follow what was there
abbrev pub invariant-loop-value : goal.invariant-loop-value
invariant-loop-value g l = l.found.items ≡ l.initial.found.items ++ take l.value-index l.values
