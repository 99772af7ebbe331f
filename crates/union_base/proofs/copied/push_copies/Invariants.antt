use Rattle.std.proofs.Common.{◌≡◌, ◌++◌, take}
use Rattle.union_base.proofs.copied.push_copies.Given as goal

-- the copies so far follow what was there
abbrev pub invariant-loop-value : goal.invariant-loop-value
invariant-loop-value g l = l.items.items ≡ l.initial.items.items ++ take l.value-index l.values
