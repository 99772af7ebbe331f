use Rattle.std.proofs.Common.{◌≡◌, ◌&&◌, drop}
use Rattle.marc_leader.specs.Numeral.{are_digits}
use Rattle.marc_leader.proofs.numeral.are_digits.Given as goal

-- what was read are digits or not, and the rest decides
abbrev pub invariant-loop-byte : goal.invariant-loop-byte
invariant-loop-byte l = are_digits l.text ≡ (l.sound && are_digits (drop l.byte-index l.text))
