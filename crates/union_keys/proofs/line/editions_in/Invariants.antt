use Rattle.std.proofs.Common.{◌≡◌, take}
use Rattle.union_keys.specs.Lines.{editions_in}
use Rattle.union_keys.proofs.line.editions_in.Given as goal

abbrev pub invariant-loop-member : goal.invariant-loop-member
invariant-loop-member l = l.editions.items ≡ editions_in (take l.member-index l.members)
