use Rattle.std.proofs.Common.{◌≡◌, ◌++◌, take}
use Rattle.union_base.specs.OneLine.{shown}
use Rattle.union_base.proofs.one_line.add_shown.Given as goal

abbrev pub invariant-loop-byte : goal.invariant-loop-byte
invariant-loop-byte l = l.text.items ≡ l.initial.text.items ++ shown (take l.byte-index l.bytes)
